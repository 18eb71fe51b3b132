-- The answer of a call: what `apply_haplotype` returns, and what it writes.
use Rattle.std.specs.Prelude.{ℕ, zero, suc, ◌+◌, min, Bool, true, false, cond, ◌&&◌, List, [], eqb, length}
use Rattle.paths.specs.Search.{none}
use Rattle.params.specs.Numbers.{Table, Parts, Call, first_fault, search_mode}
use Rattle.kplib.specs.Score.{start}
use Rattle.kplib.specs.OneToOne.{one_to_one, lone_rows}
use Rattle.kplib.specs.Search.{scored_in, left_in, best_in}
use Rattle.params.specs.declared.Settings.{Settings}
use Rattle.kplib.specs.declared.pathscore.Scored.{Scored}
use Rattle.kplib.specs.declared.traverse.Answer.{Answer}

-- what is found: rows, their score, how many were scored, and whether these are all
pub record Found : Type 0 where
  pub rows : List ℕ
  pub scored : Scored
  pub count : ℕ
  pub complete : Bool

-- the search's best, the number of chains scored, and whether none is left queued
unfoldable pub searched : Settings → Table → Parts → Found
searched s t p = record {
  rows = (best_in s t p).rows;
  scored = (best_in s t p).scored;
  count = length (scored_in s t p);
  complete = none (left_in s t p);
}

-- one-to-one: count V + 2, complete yes
unfoldable pub matched_alone : Settings → Table → Parts → Found
matched_alone s t p =
    let lone = one_to_one s t p in
    record { rows = lone_rows lone; scored = lone.scored; count = length t.starts + 2; complete = true }

-- a refusal: no rows, no part list, three zeros, count 0, complete no
abbrev pub none_found : Found
none_found = record { rows = []; scored = start; count = 0; complete = false }

-- any job that is not matched one to one is in search mode; V is the number of starts
abbrev pub in_search_mode : Call → Bool
in_search_mode c = search_mode c.settings (length c.table.starts)

-- what is found where the checks gave this number
abbrev pub found_after : ℕ → Call → Found
found_after zero c = cond (in_search_mode c) (searched c.settings c.table c.parts) (matched_alone c.settings c.table c.parts)
found_after (suc n) c = none_found

abbrev pub answer_with : ℕ → Found → Answer
answer_with refusal f = record {
  refusal = refusal;
  rows = length f.rows;
  target = f.scored.target;
  score = f.scored.score;
  sizesim = f.scored.sizesim;
  seqsim = f.scored.seqsim;
  scored = f.count;
  complete = f.complete;
}

unfoldable pub answer_of : Call → Answer
answer_of c = answer_with (first_fault c) (found_after (first_fault c) c)

unfoldable pub rows_of : Call → List ℕ
rows_of c = (found_after (first_fault c) c).rows

-- queue room is the shorter of the queue's slices
abbrev pub queue_room : List ℕ → List ℕ → ℕ
queue_room links keys = min (length links) (length keys)

-- the queue's slices are written by a search only
unfoldable pub searches : Call → Bool
searches c = eqb (first_fault c) 0 && in_search_mode c
