use Rattle.call_notice.proofs.Laws as law
use Rattle.call_notice.proofs.put_lead.Goals as goal

pub returns-then-not-led : goal.returns-then-not-led
returns-then-not-led c =
    let a = c.args in law.no_lead a.led a.area.now c.if-not-led.true

pub returns-in_err-put_item : goal.returns-in_err-put_item
returns-in_err-put_item c =
    let a = c.args in law.no_place a.led a.area.now _ c.if-not-led.false c.in_err-put_item.ensures.put _ _ c.in_err-put_item.ensures.answers c.from_residual.ensures.1

pub returns : goal.returns
returns c =
    let a = c.args in law.lead_put a.led a.area.now _ c.if-not-led.false c.in_ok-put_item.ensures.put _ c.in_ok-put_item.ensures.answers
