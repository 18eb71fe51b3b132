-- Document 01, "Numbers a job may hold": the table of refusals, and which of its rows a call is refused by.
use Rattle.std.specs.Prelude.{ℕ, zero, suc, ◌+◌, ◌-◌, ◌*◌, ◌^◌, Bool, true, false, not, cond, ◌&&◌, ◌||◌, List, [], ◌∷◌, ◌++◌, leb, ltb, eqb, ℤ, pos, negsuc, nat_abs, length}
use Rattle.std.specs.Prelude.{get_or, take, drop, Float}
use Rattle.std.specs.Float.Ieee.{le}
use Rattle.metrics.specs.Similarity.{whole, magnitude_sum}
use Rattle.params.specs.declared.Settings.{Settings}

-- what the caller lends of the variants; V is the number of starts
pub record Table : Type 0 where
  pub starts : List ℕ
  pub ends : List ℕ
  pub sizes : List ℤ
  pub features : List ℤ

abbrev pub table_of : List ℕ → List ℕ → List ℤ → List ℤ → Table
table_of a b c d = record { starts = a; ends = b; sizes = c; features = d }

-- what the caller lends of the haplotype's parts; m is the number of part sizes
pub record Parts : Type 0 where
  pub sizes : List ℤ
  pub features : List ℤ

abbrev pub parts_of : List ℤ → List ℤ → Parts
parts_of a b = record { sizes = a; features = b }

-- a call: the settings, what is lent, and the room for queue entries and for the rows of an answer
pub record Call : Type 0 where
  pub settings : Settings
  pub table : Table
  pub parts : Parts
  pub queue_room : ℕ
  pub answer_room : ℕ

abbrev pub call_of : Settings → Table → Parts → ℕ → ℕ → Call
call_of s t p queue_room answer_room = record { settings = s; table = t; parts = p; queue_room = queue_room; answer_room = answer_room }

-- row r of a table that holds rows of e entries one behind the other
abbrev pub row_at : ℕ → List ℤ → ℕ → List ℤ
row_at e table r = take e (drop (r * e) table)

-- a row of the table of refusals: its number, and whether it is to be given
pub record Rule : Type 0 where
  pub number : ℕ
  pub given : Bool

abbrev pub rule : ℕ → Bool → Rule
rule n t = record { number = n; given = t }

-- the rows are tried in order; 0 is an accepted call
abbrev pub first_of : List Rule → ℕ
first_of [] = 0
first_of (r ∷ rules) = cond r.given r.number (first_of rules)

-- some number below n passes the test
unfoldable pub any_below : ℕ → (ℕ → Bool) → Bool
any_below zero test = false
any_below (suc n) test = any_below n test || test n

-- 1: k not 1 to 6
unfoldable pub bad_k : Settings → Bool
bad_k s = not (leb 1 s.k && leb s.k 6)

-- not in 0 to `most`. `le` is false at a NaN, and takes minus zero for zero
abbrev pub outside : Float → Float → Bool
outside most x = not (le (whole 0) x && le x most)

-- 2: a float setting is NaN or outside its range
unfoldable pub bad_float : Settings → Bool
bad_float s =
    outside (whole 1) s.sizesim
    || (outside (whole 1) s.seqsim || (outside (whole 1000) s.fpenalty || outside (whole 1000) s.gpenalty))

-- 3: a whole-number setting over its limit; document 02, P6: `letters` other than 0 or 1
unfoldable pub bad_number : Settings → Bool
bad_number s =
    ltb 4095 s.maxpaths
    || (ltb 65535 s.maxnodes || (ltb 65535 s.fnmax || (ltb 12 s.pileupmax || (ltb 16777216 s.minkfreq || ltb 1 s.letters))))

-- 4: no variants
abbrev pub no_variants : List ℕ → Bool
no_variants starts = eqb (length starts) 0

-- 5: over 64 variants or over 64 parts
abbrev pub too_many : ℕ → Bool
too_many n = ltb 64 n

-- 6: lent lengths disagree with V, m or 4^k
abbrev pub disagrees : ℕ → ℕ → Bool
disagrees given wanted = not (eqb given wanted)

abbrev pub table_disagrees : ℕ → Table → Bool
table_disagrees e t =
    disagrees (length t.ends) (length t.starts)
    || (disagrees (length t.sizes) (length t.starts) || disagrees (length t.features) (length t.starts * e))

abbrev pub parts_disagree : ℕ → Parts → Bool
parts_disagree e p = disagrees (length p.features) (length p.sizes * e)

-- 7: a start is greater than its end
unfoldable pub start_after_end : List ℕ → List ℕ → Bool
start_after_end starts ends = any_below (length starts) (λ r. ltb (get_or ends r 0) (get_or starts r 0))

-- 8: a start is less than the row before's
unfoldable pub falling_start : List ℕ → Bool
falling_start starts = any_below (length starts - 1) (λ r. ltb (get_or starts (r + 1) 0) (get_or starts r 0))

-- 9: a size over its limit
unfoldable pub bad_size : List ℤ → Bool
bad_size sizes = any_below (length sizes) (λ r. ltb 131072 (nat_abs (get_or sizes r (pos 0))))

-- 10: a feature row over its limit, of n rows of e entries each
unfoldable pub bad_row : ℕ → ℕ → List ℤ → Bool
bad_row e n features = any_below n (λ r. ltb 131072 (magnitude_sum (row_at e features r)))

abbrev pub is_zero : ℤ → Bool
is_zero (pos n) = eqb n 0
is_zero (negsuc n) = false

-- every entry is 0
unfoldable pub all_zero : List ℤ → Bool
all_zero [] = true
all_zero (x ∷ xs) = is_zero x && all_zero xs

-- 16: a variant's feature row is all zero, of n rows of e entries each
unfoldable pub empty_row : ℕ → ℕ → List ℤ → Bool
empty_row e n features = any_below n (λ r. all_zero (row_at e features r))

-- one-to-one runs when asked or when V exceeds maxnodes; any other job is in search mode
abbrev pub search_mode : Settings → ℕ → Bool
search_mode s v = not (s.one_to_one || ltb s.maxnodes v)

-- the entries that a search may have to queue
abbrev pub queue_needs : Settings → ℕ → ℕ
queue_needs s v = 1 + (s.maxpaths + 1) * v

-- 11: search mode, and queue room under 1 + (maxpaths + 1) × V entries
unfoldable pub little_queue_room : Settings → ℕ → ℕ → Bool
little_queue_room s v queue_room = search_mode s v && ltb queue_room (queue_needs s v)

-- 12: answer room under V rows
abbrev pub little_answer_room : ℕ → ℕ → Bool
little_answer_room v answer_room = ltb answer_room v

-- the rows of the table, each over all variants and then all parts; e is 4^k
abbrev pub settings_rules : Settings → List Rule
settings_rules s = rule 1 (bad_k s) ∷ (rule 2 (bad_float s) ∷ (rule 3 (bad_number s) ∷ []))

abbrev pub shape_rules : ℕ → Table → Parts → List Rule
shape_rules e t p =
    rule 5 (too_many (length t.starts))
    ∷ (rule 5 (too_many (length p.sizes))
    ∷ (rule 6 (table_disagrees e t)
    ∷ (rule 6 (parts_disagree e p)
    ∷ [])))

abbrev pub length_rules : ℕ → Table → Parts → List Rule
length_rules e t p = rule 4 (no_variants t.starts) ∷ shape_rules e t p

abbrev pub bound_rules : List ℕ → List ℕ → List Rule
bound_rules starts ends = rule 7 (start_after_end starts ends) ∷ (rule 8 (falling_start starts) ∷ [])

-- a part of no entries but 0 is taken: 16 asks the variants alone
abbrev pub limit_rules : ℕ → Table → Parts → List Rule
limit_rules e t p =
    rule 9 (bad_size t.sizes)
    ∷ (rule 9 (bad_size p.sizes)
    ∷ (rule 10 (bad_row e (length t.starts) t.features)
    ∷ (rule 10 (bad_row e (length p.sizes) p.features)
    ∷ (rule 16 (empty_row e (length t.starts) t.features)
    ∷ []))))

-- those that look at nothing but the parts
abbrev pub parts_rules : ℕ → Parts → List Rule
parts_rules e p =
    rule 5 (too_many (length p.sizes))
    ∷ (rule 6 (parts_disagree e p)
    ∷ (rule 9 (bad_size p.sizes)
    ∷ (rule 10 (bad_row e (length p.sizes) p.features)
    ∷ [])))

abbrev pub room_rules : Settings → ℕ → ℕ → ℕ → List Rule
room_rules s v queue_room answer_room =
    rule 11 (little_queue_room s v queue_room) ∷ (rule 12 (little_answer_room v answer_room) ∷ [])

-- checked in this order
abbrev pub call_rules : Call → List Rule
call_rules c =
    settings_rules c.settings
    ++ (length_rules (4 ^ c.settings.k) c.table c.parts
    ++ (bound_rules c.table.starts c.table.ends
    ++ (limit_rules (4 ^ c.settings.k) c.table c.parts
    ++ room_rules c.settings (length c.table.starts) c.queue_room c.answer_room)))

unfoldable pub first_fault : Call → ℕ
first_fault c = first_of (call_rules c)

-- the chain count asked for by itself: cap at most 4,096, else 3; also 4 to 8
abbrev pub chain_count_rules : ℕ → List ℕ → List ℕ → List Rule
chain_count_rules cap starts ends =
    rule 3 (ltb 4096 cap)
    ∷ (rule 4 (no_variants starts)
    ∷ (rule 5 (too_many (length starts))
    ∷ (rule 6 (disagrees (length ends) (length starts))
    ∷ bound_rules starts ends)))

unfoldable pub chain_count_fault : ℕ → List ℕ → List ℕ → ℕ
chain_count_fault cap starts ends = first_of (chain_count_rules cap starts ends)
