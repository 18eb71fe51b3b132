-- The number that a report gives the target of an answer is at most 65: 1 more for each part left out, of which there are at most 64, so that the largest word,
-- by which a report would tell any greater number, never stands there.
use Rattle.std.specs.Prelude.{◌≤◌}
use Rattle.kplib.specs.Report.{target_number}
use Rattle.dive.specs.Numbered.{Numbered, numbered_answer}

abbrev pub TargetsTold : Type 0
TargetsTold = (n : Numbered) → target_number (numbered_answer n).target ≤ 65
