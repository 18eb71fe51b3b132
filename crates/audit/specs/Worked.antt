-- Document 01, "Job form and program", and document 02, P7: its worked job in both editions, and that the definitions give for it what document 01 prints.
use Rattle.std.specs.Prelude.{ℕ, ◌≡◌, true, false, List, [], ◌∷◌, ◌++◌, pos, Float}
use Rattle.std.specs.Float.{binary32}
use Rattle.std.specs.Float.Ieee.{of_bits}
use Rattle.metrics.specs.Letters.{counts_of}
use Rattle.metrics.specs.Similarity.{whole}
use Rattle.params.specs.Numbers.{Table, Parts, Call, table_of, parts_of, call_of, first_fault}
use Rattle.kplib.specs.Score.{chain_score}
use Rattle.kplib.specs.Search.{scored_in}
use Rattle.kplib.specs.Answer.{answer_of, rows_of}
use Rattle.dive.specs.Numbered.{Numbered, records_of}
use Rattle.form.specs.declared.records.Edition.TheVariants.{One, Two}
use Rattle.form.specs.Job.{Job, job_bytes}
use Rattle.text.specs.Text.{bytes_of}
use Rattle.desk.specs.Desk.{desk_text}
use Rattle.params.specs.declared.Settings.{Settings}
use Rattle.kplib.specs.declared.pathscore.Target.TheVariants.{Whole}

abbrev pub half : Float
half = of_bits binary32 1056964608

abbrev pub settings : Settings
settings = record {
  k = 1;
  squish = false;
  one_to_one = false;
  full = true;
  maxpaths = 10;
  maxnodes = 10;
  fnmax = 1;
  pileupmax = 5;
  minkfreq = 1;
  letters = 0;
  sizesim = half;
  seqsim = half;
  fpenalty = whole 0;
  gpenalty = whole 0;
}

abbrev pub ag : List ℕ
ag = bytes_of "AG"

abbrev pub ct : List ℕ
ct = bytes_of "CT"

abbrev pub variants : Table
variants = table_of (10 ∷ (20 ∷ [])) (10 ∷ (20 ∷ [])) (pos 2 ∷ (pos 2 ∷ [])) (counts_of 1 false ag ++ counts_of 1 false ct)

abbrev pub part : Parts
part = parts_of (pos 2 ∷ []) (counts_of 1 false ag)

-- the same as records of the job form
abbrev pub job : Job
job = record {
  settings = settings;
  variants =
      record { start = 10; end = 10; size = pos 2; negative = false; letters = ag }
      ∷ (record { start = 20; end = 20; size = pos 2; negative = false; letters = ct } ∷ []);
  haplotypes = (record { size = pos 2; negative = false; letters = ag } ∷ []) ∷ [];
}

-- document 02, P1: the same with a second haplotype, whose part has a size over its limit
abbrev pub two_haplotypes : Job
two_haplotypes = record {
  settings = settings;
  variants = job.variants;
  haplotypes = (record { size = pos 2; negative = false; letters = ag } ∷ []) ∷ ((record { size = pos 131073; negative = false; letters = ag } ∷ []) ∷ []);
}

-- the lines that document 01 prints, and document 02's `records` (P3) after `rows`
abbrev pub lines_with : List ℕ → List ℕ
lines_with records =
    bytes_of "rows 0\n"
    ++ records
    ++ bytes_of "score 3f800000\n"
    ++ bytes_of "sizesim 3f800000\n"
    ++ bytes_of "seqsim 3f800000\n"
    ++ bytes_of "full yes\n"
    ++ bytes_of "scored 4\n"
    ++ bytes_of "complete yes\n"

abbrev pub lines : List ℕ
lines = lines_with (bytes_of "records 0\n")

-- the job as a call with just the room that it needs: 1 + (maxpaths + 1) × V queue entries and V rows
abbrev pub call : Call
call = call_of settings variants part 23 2

-- the same with the record numbers 40 and 7, and room for two records
abbrev pub numbered : Numbered
numbered = record { call = call; numbers = 40 ∷ (7 ∷ []); record_room = 2 }

pub record Worked : Type 0 where
  -- its checks all pass
  pub accepted : first_fault call ≡ 0
  -- the empty chain, row 1, row 0, and both (last row first): sizes 0, 2, 2 and 4 against 2, the highest node first
  pub order : scored_in settings variants part ≡ [] ∷ ((1 ∷ []) ∷ ((0 ∷ []) ∷ ((1 ∷ (0 ∷ [])) ∷ [])))
  -- row 0 alone is the haplotype itself
  pub exact : chain_score settings variants part (0 ∷ []) ≡ record { target = Whole; score = whole 1; sizesim = whole 1; seqsim = whole 1 }
  -- the answer that document 01 prints
  pub answer : answer_of call ≡ record { refusal = 0; rows = 1; target = Whole; score = whole 1; sizesim = whole 1; seqsim = whole 1; scored = 4; complete = true }
  pub rows : rows_of call ≡ 0 ∷ []
  -- the record of row 0
  pub records : records_of numbered ≡ 40 ∷ []
  -- the program, given the job's bytes of edition 1, prints these lines
  pub printed : desk_text (job_bytes One [] job) ≡ lines
  -- and given those of edition 2, with the record numbers 40 and 7, the record of row 0
  pub second_edition : desk_text (job_bytes Two (40 ∷ (7 ∷ [])) job) ≡ lines_with (bytes_of "records 40\n")
  -- of two haplotypes the first has the same lines, and the second is refused by itself
  pub several : desk_text (job_bytes One [] two_haplotypes) ≡ bytes_of "hap 0\n" ++ lines ++ bytes_of "hap 1\n" ++ bytes_of "refused 9\n"
