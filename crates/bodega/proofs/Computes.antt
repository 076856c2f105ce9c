-- Every definition of the machine open at once, for proofs by computing.
use Rattle.bitmap.specs.Bitmap.{tally, every, get, mark, unmark, set_to, count, is_superset, fits}
use Rattle.roster_conf.specs.Conf.{get_responders_by_key, set_responders, into_filtered, same}
use Rattle.keys.specs.Read.{read_key}
use Rattle.keys.specs.Same.{same_bytes}
use Rattle.roster_ranges.specs.Range.{overwrite, remasked}
use Rattle.roster_ranges.specs.Canon.{is_canon}
use Rattle.bodega.specs.Replica.{fresh, inst_at, set_inst, pad}
use Rattle.bodega.specs.Localread.{is_stable_leader, commit_condition, raise, refresh_highest_slot, highest_of, is_bound, last_put, inspect_highest_slot, inspect_latest_write, hold_read, release_held_read_reqs, release_from}
use Rattle.bodega.specs.Request.{settled, read_answer, treat_read}
use Rattle.bodega.specs.Conflease.{update_peer_accept_max, guard_accept_bar, first_open, any_open, last_open, prelogs, become_a_leader, heard_new_conf}
use Rattle.bodega.specs.Heartbeat.{check_ballot, walk, advance_commit_bar, heard_commit_notice, installs, heard_conf, heard_exec_bar, heard_bars, heard_heartbeat}
use Rattle.bodega.specs.Messages.{resend_missed_accepts, take_ack, handle_msg_accept_reply, take_notice, noticed, handle_msg_accept_notice}
use Rattle.bodega.specs.Events.{prepared, recorded, executed, bars}
use Rattle.bodega.specs.Grounds.{grounds}
use Rattle.bodega.specs.Step.{effect, refusal_of, step, run, answers}
use Rattle.rank.specs.Sort.{sort, insert}

unfoldable pub computes : Unit {0}
unfolding tally every get mark unmark set_to count is_superset fits read_key overwrite remasked is_canon set_responders get_responders_by_key into_filtered same fresh inst_at set_inst pad is_stable_leader commit_condition same_bytes raise refresh_highest_slot highest_of is_bound last_put inspect_highest_slot inspect_latest_write hold_read release_held_read_reqs release_from settled read_answer treat_read update_peer_accept_max guard_accept_bar first_open any_open last_open prelogs become_a_leader heard_new_conf check_ballot walk advance_commit_bar heard_commit_notice installs heard_conf heard_exec_bar heard_bars heard_heartbeat resend_missed_accepts take_ack handle_msg_accept_reply take_notice noticed handle_msg_accept_notice prepared recorded executed bars grounds effect refusal_of step run answers sort insert
computes = tt
