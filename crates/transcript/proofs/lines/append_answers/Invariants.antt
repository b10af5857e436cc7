use Rattle.std.proofs.Common.{◌≡◌, ◌++◌, take}
use Rattle.std.specs.List.{flat_map}
use Rattle.transcript.specs.Transcripts.{answer_lines}
use Rattle.transcript.proofs.lines.append_answers.Given as goal

abbrev pub invariant-loop-answer : goal.invariant-loop-answer
invariant-loop-answer l =
    l.text.items ≡ l.initial.text.items ++ flat_map answer_lines (take l.answer-index l.answers)
