-- The numbers of documents 01 and 02 for the refusals. 0 is an accepted call.
use Rattle.std.specs.Prelude.{ℕ, zero, suc, cond, ◌==◌, Result, Ok, Err}
use Rattle.metrics.specs.declared.refusals.Refusal.{Refusal}
use Rattle.metrics.specs.declared.refusals.Refusal.TheVariants.{BadK, BadFloat, BadNumber, NoVariants, TooMany, BadLengths, StartAfterEnd, FallingStart, BadSize, BadRow, QueueRoom}
use Rattle.metrics.specs.declared.refusals.Refusal.TheVariants.{AnswerRoom, TooManyLetters, RepeatedNumber, EmptyRow, UnknownKind, CutShort, OutOfPlace, BadPadding, BadFlag, BytesAfterEnd}
use Rattle.metrics.specs.declared.refusals.Refusal.TheVariants.{TooLarge, TooManyHaplotypes, NumberNotRow, LettersOne, LittleRoom, BadLine, SecondName, TooManyLines, LittleTextRoom}
use Rattle.metrics.specs.declared.refusals.Refusal.TheVariants.{MissingRow, MissingVersion, VersionsUsed, LittleBookRoom, BrokenBook, NotItsSheet, BadSamples, NoSuchSample, UnequalSamples}
use Rattle.metrics.specs.declared.refusals.Refusal.TheVariants.{CoverageOverflow, LongProposal}

abbrev pub refusal_number : Refusal → ℕ
refusal_number BadK = 1
refusal_number BadFloat = 2
refusal_number BadNumber = 3
refusal_number NoVariants = 4
refusal_number TooMany = 5
refusal_number BadLengths = 6
refusal_number StartAfterEnd = 7
refusal_number FallingStart = 8
refusal_number BadSize = 9
refusal_number BadRow = 10
refusal_number QueueRoom = 11
refusal_number AnswerRoom = 12
refusal_number TooManyLetters = 13
refusal_number RepeatedNumber = 14
refusal_number EmptyRow = 16
refusal_number UnknownKind = 20
refusal_number CutShort = 21
refusal_number OutOfPlace = 22
refusal_number BadPadding = 23
refusal_number BadFlag = 24
refusal_number BytesAfterEnd = 25
refusal_number TooLarge = 26
refusal_number TooManyHaplotypes = 27
refusal_number NumberNotRow = 28
refusal_number LettersOne = 29
refusal_number LittleRoom = 30
refusal_number BadLine = 40
refusal_number SecondName = 41
refusal_number TooManyLines = 42
refusal_number LittleTextRoom = 43
refusal_number MissingRow = 44
refusal_number MissingVersion = 45
refusal_number VersionsUsed = 46
refusal_number LittleBookRoom = 47
refusal_number BrokenBook = 48
refusal_number NotItsSheet = 49
refusal_number BadSamples = 50
refusal_number NoSuchSample = 51
refusal_number UnequalSamples = 52
refusal_number CoverageOverflow = 53
refusal_number LongProposal = 54

-- the refusal that has this number; a number that none has is taken for the last
abbrev pub refusal_of : ℕ → Refusal
refusal_of n =
    cond (n == 1) BadK (cond (n == 2) BadFloat (cond (n == 3) BadNumber (cond (n == 4) NoVariants (cond (n == 5) TooMany (cond (n == 6) BadLengths (
    cond (n == 7) StartAfterEnd (cond (n == 8) FallingStart (cond (n == 9) BadSize (cond (n == 10) BadRow (cond (n == 11) QueueRoom (
    cond (n == 12) AnswerRoom (cond (n == 13) TooManyLetters (cond (n == 14) RepeatedNumber (cond (n == 16) EmptyRow (cond (n == 20) UnknownKind (
    cond (n == 21) CutShort (cond (n == 22) OutOfPlace (cond (n == 23) BadPadding (cond (n == 24) BadFlag (cond (n == 25) BytesAfterEnd (
    cond (n == 26) TooLarge (cond (n == 27) TooManyHaplotypes (cond (n == 28) NumberNotRow (cond (n == 29) LettersOne (cond (n == 30) LittleRoom (
    cond (n == 40) BadLine (cond (n == 41) SecondName (cond (n == 42) TooManyLines (cond (n == 43) LittleTextRoom (cond (n == 44) MissingRow (
    cond (n == 45) MissingVersion (cond (n == 46) VersionsUsed (cond (n == 47) LittleBookRoom (cond (n == 48) BrokenBook (cond (n == 49) NotItsSheet (
    cond (n == 50) BadSamples (cond (n == 51) NoSuchSample (cond (n == 52) UnequalSamples (cond (n == 53) CoverageOverflow (LongProposal))))))))))))))))))))))))))))))))))))))))

-- what a call came to, as one number
abbrev pub told : {A : Type 0} → Result A Refusal → ℕ
told (Ok a) = 0
told (Err refusal) = refusal_number refusal

-- the refusal that has this number, or this answer where the number is 0
abbrev pub refused_or : {A : Type 0} → ℕ → A → Result A Refusal
refused_or zero answer = Ok answer
refused_or (suc n) answer = Err (refusal_of (suc n))
