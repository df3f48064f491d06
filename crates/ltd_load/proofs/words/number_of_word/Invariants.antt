use Rattle.ltd_load.proofs.Digits.{Read}
use Rattle.ltd_load.proofs.words.number_of_word.Given as goal

abbrev pub invariant-loop-byte : goal.invariant-loop-byte
invariant-loop-byte l = Read l.word l.number l.byte-index
