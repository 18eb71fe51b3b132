-- Every refusal has a number of its own, and none is 0: so a call's number says what it came to.
use Rattle.std.proofs.Common.{◌≡◌, ℕ, refl, ap, sym, ◌∙◌, arith}
use Rattle.std.specs.Prelude.{Result, Ok, Err}
use Rattle.metrics.specs.declared.refusals.Refusal.{Refusal}
use Rattle.metrics.specs.declared.refusals.Refusal.TheVariants.{BadK, BadFloat, BadNumber, NoVariants, TooMany, BadLengths, StartAfterEnd, FallingStart, BadSize, BadRow, QueueRoom}
use Rattle.metrics.specs.declared.refusals.Refusal.TheVariants.{AnswerRoom, TooManyLetters, RepeatedNumber, EmptyRow, UnknownKind, CutShort, OutOfPlace, BadPadding, BadFlag, BytesAfterEnd}
use Rattle.metrics.specs.declared.refusals.Refusal.TheVariants.{TooLarge, TooManyHaplotypes, NumberNotRow, LettersOne, LittleRoom, BadLine, SecondName, TooManyLines, LittleTextRoom}
use Rattle.metrics.specs.declared.refusals.Refusal.TheVariants.{MissingRow, MissingVersion, VersionsUsed, LittleBookRoom, BrokenBook, NotItsSheet, BadSamples, NoSuchSample, UnequalSamples}
use Rattle.metrics.specs.declared.refusals.Refusal.TheVariants.{CoverageOverflow, LongProposal}
use Rattle.metrics.specs.Refusals.{refusal_number, refusal_of, told}

pub never_zero : (refusal : Refusal) → refusal_number refusal ≡ 0 → ⊥
never_zero BadK e = omega arith
never_zero BadFloat e = omega arith
never_zero BadNumber e = omega arith
never_zero NoVariants e = omega arith
never_zero TooMany e = omega arith
never_zero BadLengths e = omega arith
never_zero StartAfterEnd e = omega arith
never_zero FallingStart e = omega arith
never_zero BadSize e = omega arith
never_zero BadRow e = omega arith
never_zero QueueRoom e = omega arith
never_zero AnswerRoom e = omega arith
never_zero TooManyLetters e = omega arith
never_zero RepeatedNumber e = omega arith
never_zero EmptyRow e = omega arith
never_zero UnknownKind e = omega arith
never_zero CutShort e = omega arith
never_zero OutOfPlace e = omega arith
never_zero BadPadding e = omega arith
never_zero BadFlag e = omega arith
never_zero BytesAfterEnd e = omega arith
never_zero TooLarge e = omega arith
never_zero TooManyHaplotypes e = omega arith
never_zero NumberNotRow e = omega arith
never_zero LettersOne e = omega arith
never_zero LittleRoom e = omega arith
never_zero BadLine e = omega arith
never_zero SecondName e = omega arith
never_zero TooManyLines e = omega arith
never_zero LittleTextRoom e = omega arith
never_zero MissingRow e = omega arith
never_zero MissingVersion e = omega arith
never_zero VersionsUsed e = omega arith
never_zero LittleBookRoom e = omega arith
never_zero BrokenBook e = omega arith
never_zero NotItsSheet e = omega arith
never_zero BadSamples e = omega arith
never_zero NoSuchSample e = omega arith
never_zero UnequalSamples e = omega arith
never_zero CoverageOverflow e = omega arith
never_zero LongProposal e = omega arith

-- an accepted call is told as 0, and no other is
pub accepted_is : (found : Result Unit Refusal) → told found ≡ 0 → found ≡ Ok tt
accepted_is (Ok tt) e = refl
accepted_is (Err refusal) e = absurd (never_zero refusal e)

-- each is the one that has its number
pub refusal_is : (refusal : Refusal) → refusal_of (refusal_number refusal) ≡ refusal
refusal_is BadK = refl
refusal_is BadFloat = refl
refusal_is BadNumber = refl
refusal_is NoVariants = refl
refusal_is TooMany = refl
refusal_is BadLengths = refl
refusal_is StartAfterEnd = refl
refusal_is FallingStart = refl
refusal_is BadSize = refl
refusal_is BadRow = refl
refusal_is QueueRoom = refl
refusal_is AnswerRoom = refl
refusal_is TooManyLetters = refl
refusal_is RepeatedNumber = refl
refusal_is EmptyRow = refl
refusal_is UnknownKind = refl
refusal_is CutShort = refl
refusal_is OutOfPlace = refl
refusal_is BadPadding = refl
refusal_is BadFlag = refl
refusal_is BytesAfterEnd = refl
refusal_is TooLarge = refl
refusal_is TooManyHaplotypes = refl
refusal_is NumberNotRow = refl
refusal_is LettersOne = refl
refusal_is LittleRoom = refl
refusal_is BadLine = refl
refusal_is SecondName = refl
refusal_is TooManyLines = refl
refusal_is LittleTextRoom = refl
refusal_is MissingRow = refl
refusal_is MissingVersion = refl
refusal_is VersionsUsed = refl
refusal_is LittleBookRoom = refl
refusal_is BrokenBook = refl
refusal_is NotItsSheet = refl
refusal_is BadSamples = refl
refusal_is NoSuchSample = refl
refusal_is UnequalSamples = refl
refusal_is CoverageOverflow = refl
refusal_is LongProposal = refl

-- so a number says which it was
pub numbered_is : (refusal : Refusal) (n : ℕ) → refusal_number refusal ≡ n → refusal ≡ refusal_of n
numbered_is refusal n e = sym (refusal_is refusal) ∙ ap refusal_of e

pub same_refusal : (a b : Refusal) → refusal_number a ≡ refusal_number b → a ≡ b
same_refusal a b e = numbered_is a (refusal_number b) e ∙ refusal_is b

-- two checks that are told alike came to the same
pub told_apart : (a b : Result Unit Refusal) → told a ≡ told b → a ≡ b
told_apart (Ok a) (Ok b) e = refl
told_apart (Ok a) (Err refusal) e = absurd (never_zero refusal (sym e))
told_apart (Err refusal) (Ok b) e = absurd (never_zero refusal e)
told_apart (Err a) (Err b) e = ap (λ (refusal : Refusal). Err refusal) (same_refusal a b e)
