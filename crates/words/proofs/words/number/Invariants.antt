-- The value so far is that of the digits passed, and they are its decimal; a first zero is the whole word.
use Rattle.std.specs.Prelude.{◌+◌, ◌≤◌, ◌≡◌, length, get_or}
use Rattle.words.proofs.Reading.{Reading}
use Rattle.words.proofs.words.number.Given as goal

abbrev pub invariant-loop-byte : goal.invariant-loop-byte
invariant-loop-byte l = (get_or l.word 0 0 ≡ 48 → length l.word ≤ 1) × Reading l.word l.most l.value (l.byte-index + 1)
