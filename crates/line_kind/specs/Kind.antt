-- Trusted: document 01, "The event program": the seventeen kinds of lines, by their names.
use Rattle.std.specs.Prelude.{if◌then◌else◌}
use Rattle.words.specs.Text.{Bytes, bytes}
use Rattle.keys.specs.Same.{same_bytes}
use Rattle.line_kind.specs.declared.Kind.{Kind}
use Rattle.line_kind.specs.declared.Kind.TheVariants.{Node, Edit, Show, Heard, Record, Call, Unknown}
use Rattle.line_kind.specs.declared.EditKind.TheVariants.{Lead, Range, Whole, Drop, Reset}
use Rattle.line_kind.specs.declared.CallKind.TheVariants.{Guard, Prepared, Reply, Notice, Commit, Bars, Read, Release}

unfoldable pub kind_of : Bytes → Kind
kind_of name =
    if same_bytes name (bytes "node") then Node else
    if same_bytes name (bytes "lead") then Edit Lead else
    if same_bytes name (bytes "range") then Edit Range else
    if same_bytes name (bytes "whole") then Edit Whole else
    if same_bytes name (bytes "drop") then Edit Drop else
    if same_bytes name (bytes "reset") then Edit Reset else
    if same_bytes name (bytes "show") then Show else
    if same_bytes name (bytes "heard") then Heard else
    if same_bytes name (bytes "guard") then Call Guard else
    if same_bytes name (bytes "prepared") then Call Prepared else
    if same_bytes name (bytes "record") then Record else
    if same_bytes name (bytes "reply") then Call Reply else
    if same_bytes name (bytes "notice") then Call Notice else
    if same_bytes name (bytes "commit") then Call Commit else
    if same_bytes name (bytes "bars") then Call Bars else
    if same_bytes name (bytes "read") then Call Read else
    if same_bytes name (bytes "release") then Call Release else
    Unknown
