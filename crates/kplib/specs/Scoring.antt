-- What the functions behind the scoring ask and promise one another. No public promise cites this file.
use Rattle.std.specs.Prelude.{ℕ, zero, suc, ◌+◌, ◌-◌, ◌*◌, ◌/◌, ◌%◌, ◌^◌, ◌≤◌, ◌<◌, ◌≡◌, Bool, true, false, cond, not, ◌&&◌, List, [], ◌∷◌, ◌++◌, map, T, eqb, ℤ, pos, nat_abs, Option, Some, None}
use Rattle.std.specs.Prelude.{length, get_or, take, Float}
use Rattle.std.specs.Float.Ieee.{lt, le}
use Rattle.metrics.specs.Similarity.{whole, sizesim_value, magnitude_sum}
use Rattle.paths.specs.Best.{All}
use Rattle.params.specs.Checked.{Flat, Sized}
use Rattle.params.specs.Numbers.{Table, Parts, row_at}
use Rattle.kplib.specs.Parts.{positions_from, whole_of, choices, falling_lists, part_lists}
use Rattle.kplib.specs.Sums.{size_of, features_of, Total}
use Rattle.kplib.specs.Score.{sign, gap_of, score_value, start, list_score, greater_of, scores_of}
use Rattle.kplib.specs.OneToOne.{node_total, latest_of, over_nodes, no_lone}
use Rattle.kplib.specs.declared
use Rattle.kplib.specs.Told.{Told}
use Rattle.params.specs.declared.Settings.{Settings}
use Rattle.kplib.specs.declared.pathscore.Scored.{Scored}
use Rattle.kplib.specs.declared.pathscore.Scores.{Scores}
use Rattle.kplib.specs.declared.pathscore.Best.{Best}
use Rattle.kplib.specs.declared.pathscore.Terms.{Terms}
use Rattle.kplib.specs.declared.pathscore.Tested.{Tested}
use Rattle.kplib.specs.declared.onetoone.Lone.{Lone}
use Rattle.kplib.specs.declared.plan.Plan.{Plan}

-- what the checks give of the two tables
pub record Tables (s : Settings) (t : Table) (p : Parts) : Type 0 where
  pub minkfreq : s.minkfreq ≤ 16777216
  pub sized : Sized t.sizes
  pub rows : Flat (length t.sizes) (4 ^ s.k) t.features
  pub part_sized : Sized p.sizes
  pub part_rows : Flat (length p.sizes) (4 ^ s.k) p.features

-- every row of the list is below n
abbrev pub AllBelow : ℕ → List ℕ → Type 0
AllBelow n rows = All (λ r. r < n) rows

-- ---- part lists as codes

abbrev pub keep_if : Bool → ℕ → List ℕ → List ℕ
keep_if true p list = p ∷ list
keep_if false p list = list

-- of the n positions from p on, those whose bits are set
unfoldable pub positions_of_bits : ℕ → ℕ → ℕ → List ℕ
positions_of_bits p zero bits = []
positions_of_bits p (suc n) bits = keep_if (eqb (bits % 2) 1) p (positions_of_bits (suc p) n (bits / 2))

-- a code is length x 65,536 + position bits; one without bits is the whole haplotype, which may have more parts than a code has bits
unfoldable pub list_of_code : ℕ → ℕ → List ℕ
unfolding positions_from positions_of_bits
list_of_code m code = cond (eqb (code % 65536) 0) (whole_of (code / 65536)) (positions_of_bits 0 m (code % 65536))

-- a list, its code and its size
pub record LaidList (part_sizes : List ℤ) (code : ℕ) (size : ℤ) (list : List ℕ) : Type 0 where
  pub list_is : list_of_code (length part_sizes) code ≡ list
  pub count_is : code / 65536 ≡ length list
  pub size_is : size ≡ size_of part_sizes list
  pub within : AllBelow (length part_sizes) list
  pub most : length list ≤ length part_sizes

-- the lists, one after another from `at` on
abbrev pub LaidFrom : List ℤ → ℕ → List ℕ → List ℤ → List (List ℕ) → Type 0
LaidFrom part_sizes at codes list_sizes lists =
    (i : ℕ) → i < length lists → LaidList part_sizes (get_or codes (at + i) 0) (get_or list_sizes (at + i) (pos 0)) (get_or lists i [])

-- what laying down the part lists asks, and what it leaves behind
pub record Layable (s : Settings) (part_sizes : List ℤ) (codes : List ℕ) (list_sizes : List ℤ) : Type 0 where
  pub pileupmax : s.pileupmax ≤ 12
  pub sized : Sized part_sizes
  pub room : 2047 ≤ length codes
  pub beside : length list_sizes ≡ length codes

pub record LaidDown (s : Settings) (part_sizes : List ℤ) (codes : List ℕ) (list_sizes : List ℤ) (count : ℕ) : Type 0 where
  pub counted : count ≡ length (part_lists (length part_sizes) s.fnmax s.pileupmax)
  pub laid : LaidFrom part_sizes 0 codes list_sizes (part_lists (length part_sizes) s.fnmax s.pileupmax)
  pub room : count ≤ length codes
  pub beside : count ≤ length list_sizes

-- the lists that begin with the positions of `bits`, d of them and all before p, and go on with n positions from p
pub record Choosing (p n d bits bit at : ℕ) (size : ℤ) (part_sizes : List ℤ) (codes : List ℕ) (list_sizes : List ℤ) : Type 0 where
  pub few : length part_sizes ≤ 16
  pub inside : p ≤ length part_sizes
  pub bit_is : bit ≡ 2 ^ p
  pub low : bits < 2 ^ p
  pub held : d ≤ bits
  pub some : 1 ≤ d + n
  pub count : d ≡ length (positions_of_bits 0 (length part_sizes) bits)
  pub less : d ≤ p
  pub sized : Sized part_sizes
  pub size_is : size ≡ size_of part_sizes (positions_of_bits 0 (length part_sizes) bits)
  pub room : at + length (choices (length part_sizes - p) p n) ≤ length codes
  pub beside : length list_sizes ≡ length codes

pub record Chosen (p n bits at : ℕ) (part_sizes : List ℤ) (codes codes' : List ℕ) (list_sizes listSizes' : List ℤ) (r : ℕ) : Type 0 where
  pub end : r ≡ at + length (choices (length part_sizes - p) p n)
  pub codes_kept : take at codes' ≡ take at codes
  pub sizes_kept : take at listSizes' ≡ take at list_sizes
  pub laid : LaidFrom part_sizes at codes' listSizes' (map (λ (l : List ℕ). positions_of_bits 0 (length part_sizes) bits ++ l) (choices (length part_sizes - p) p n))

-- the lists of m parts, of m - 1 parts, .., for so many lengths
pub record LayingLengths (part_sizes : List ℤ) (lengths : ℕ) (codes : List ℕ) (list_sizes : List ℤ) : Type 0 where
  pub few : length part_sizes ≤ 11
  pub lengths_few : lengths ≤ length part_sizes
  pub sized : Sized part_sizes
  pub room : 2047 ≤ length codes
  pub beside : length list_sizes ≡ length codes

pub record LaidLengths (part_sizes : List ℤ) (lengths : ℕ) (codes : List ℕ) (list_sizes : List ℤ) (count : ℕ) : Type 0 where
  pub counted : count ≡ length (falling_lists (length part_sizes) lengths (length part_sizes))
  pub laid : LaidFrom part_sizes 0 codes list_sizes (falling_lists (length part_sizes) lengths (length part_sizes))
  pub few : count ≤ 2047

-- ---- sums

-- every row named stands whole in a table of so many entries
abbrev pub Inside : ℕ → ℕ → List ℕ → Type 0
Inside entries e [] = Unit {0}
Inside entries e (r ∷ rows) = (r * e + e ≤ entries) × Inside entries e rows

-- at most 64 rows of a table of rows within their limit
pub record Summable (e : ℕ) (table : List ℤ) (rows : List ℕ) : Type 0 where
  pub entries : length table ≤ 262144
  pub inside : Inside (length table) e rows
  pub rowed : (r : ℕ) → magnitude_sum (row_at e table r) ≤ 131072
  pub most : length rows ≤ 64

-- the chain's row and its magnitudes' sum, once it is summed
abbrev pub Ready : Option ℕ → List ℤ → List ℤ → Type 0
Ready (Some weight) row features = (row ≡ features) × (weight ≡ magnitude_sum features)
Ready None row features = Unit {0}

-- ---- one list

abbrev pub total : ℤ → List ℤ → ℕ → Total
total size features count = record { size = size; features = features; count = count }

abbrev pub chain_total : ℕ → List ℤ → List ℕ → ℤ → Total
unfolding features_of
chain_total e features chain size = total size (features_of e features chain) (length chain)

-- what the code's struct holds
abbrev pub total_held : declared.pathscore.Total.Total → Total
total_held t = total t.size t.features.now t.count

-- what the tests before seqsim's look at
abbrev pub tested_of : ℤ → ℕ → ℤ → ℕ → ℕ → Tested
tested_of chainSize chainLen listSize listLen partial = record {
  chain_size = chainSize;
  chain_len = chainLen;
  list_size = listSize;
  list_len = listLen;
  partial = partial;
}

-- the sizes and lengths of a chain and of a list that leaves so many parts out, within the limits
pub record Testable (m : Tested) : Type 0 where
  pub chain_size : nat_abs m.chain_size ≤ 8388608
  pub list_size : nat_abs m.list_size ≤ 8388608
  pub chain_few : m.chain_len ≤ 64
  pub list_few : m.list_len ≤ 64
  pub partial_few : m.partial ≤ 64

-- a summed chain and a summed list, within what the similarities take
pub record Comparable (s : Settings) (chain list : Total) (partial : ℕ) : Type 0 where
  pub minkfreq : s.minkfreq ≤ 16777216
  pub widths : length chain.features ≡ length list.features
  pub chain_row : magnitude_sum chain.features ≤ 8388608
  pub list_row : magnitude_sum list.features ≤ 8388608
  pub tests : Testable (tested_of chain.size chain.count list.size list.count partial)

-- r may stand for the score x in a search whose best is at `floor`: it is x, or both are below the floor and replace nothing there
pub data StandsFor (floor : Float) : Scored → Scored → Type 0 where
  same : {x r : Scored} → r ≡ x → StandsFor floor x r
  below : {x r : Scored} → lt x.score floor ≡ true → lt r.score floor ≡ true → StandsFor floor x r

-- what a list's score depends on beside its seqsim, with what it must beat and reach
abbrev pub terms_of : Settings → Tested → Float → Float → Terms
terms_of s m floor best = record {
  size = sizesim_value (nat_abs m.chain_size) (nat_abs m.list_size);
  partial = m.partial;
  gap = gap_of s.squish m.list_len m.chain_len;
  floor = floor;
  best = best;
}

-- with this seqsim it would score above the best and no lower than the floor
unfoldable pub may_score : Settings → Terms → Float → Bool
may_score s terms seq =
    let bound = score_value s seq terms.size terms.partial terms.gap in
    not (lt bound terms.floor) && not (le bound terms.best)

-- whether a list passes the tests before seqsim's and, were its seqsim 1.0, could win
unfoldable pub may_win : Settings → Tested → Float → Float → Bool
unfolding may_score
may_win s m floor best =
    let terms = terms_of s m floor best in
    not (s.squish && eqb m.chain_len 0) && (eqb (sign m.chain_size) (sign m.list_size) && (not (lt terms.size s.sizesim) && may_score s terms (whole 1)))

-- the verdict by seqsim, where the tests before it are passed
abbrev pub verdict_of : Settings → Terms → Float → Option Scores
verdict_of s terms seq = cond (lt seq s.seqsim) None (Some (scores_of (score_value s seq terms.size terms.partial terms.gap) terms.size seq))

-- a list that may win against a summed chain
pub record Judgeable (s : Settings) (table : List ℤ) (rows : List ℕ) (chainRow : List ℤ) (weight : ℕ) (terms : Terms) : Type 0 where
  pub minkfreq : s.minkfreq ≤ 16777216
  pub summed : Summable (length chainRow) table rows
  pub weight_is : weight ≡ magnitude_sum chainRow
  pub limit : weight ≤ 8388608
  pub partial_few : terms.partial ≤ 64
  pub gap_few : terms.gap ≤ 64

-- the list's own verdict; or none, since with some seqsim that is no less than its own it could not win
pub data Judged (s : Settings) (terms : Terms) (seq : Float) : Option Scores → Type 0 where
  own : {r : Option Scores} → r ≡ verdict_of s terms seq → Judged s terms seq r
  idle : {r : Option Scores} (most : Float) → r ≡ None → T (le seq most) → may_score s terms most ≡ false → Judged s terms seq r

-- ---- the lists as they lie, each a code and a size

-- a plan within the limits, whose rows have 4^k entries
pub record Planned (plan : Plan) : Type 0 where
  pub minkfreq : plan.s.minkfreq ≤ 16777216
  pub width_is : plan.width ≡ 4 ^ plan.s.k
  pub few : plan.m ≤ 64

-- what a code and a size say of a list of m parts
pub record CodedList (m code : ℕ) (size : ℤ) : Type 0 where
  pub count_is : code / 65536 ≡ length (list_of_code m code)
  pub within : AllBelow m (list_of_code m code)
  pub most : code / 65536 ≤ m
  pub size_small : nat_abs size ≤ 8388608

pub record Coded (m : ℕ) (codes : List ℕ) (sizes : List ℤ) : Type 0 where
  pub alike : length sizes ≡ length codes
  pub each : (i : ℕ) → i < length codes → CodedList m (get_or codes i 0) (get_or sizes i (pos 0))

-- the best after one more list
unfoldable pub after_code : Plan → List ℤ → Total → Scored → ℕ → ℤ → Scored
unfolding list_score greater_of features_of
after_code plan part_features chain best code size =
    let partial = plan.m - code / 65536 in
    greater_of best partial (list_score plan.s chain (total size (features_of plan.width part_features (list_of_code plan.m code)) (code / 65536)) partial)

-- and after all of them, in order
unfoldable pub after_codes : (Scored → ℕ → ℤ → Scored) → Scored → List ℕ → List ℤ → Scored
after_codes after best [] sizes = best
after_codes after best (code ∷ codes) [] = best
after_codes after best (code ∷ codes) (size ∷ sizes) = after_codes after (after best code size) codes sizes

-- a chain, by its total, against the lists as they lie
unfoldable pub coded_score : Plan → List ℤ → List ℕ → List ℤ → Total → Scored
unfolding after_codes after_code
coded_score plan part_features codes sizes chain = after_codes (after_code plan part_features chain) start codes sizes

-- one laid list about to be tried against a chain, with the scratch, which is the chain's row once it is summed
pub record Attempt (q : Told) (chain : List ℕ) (chainSize : ℤ) (code : ℕ) (size : ℤ) (chosen : List ℕ) (scratch : List ℤ) (weight : Option ℕ) : Type 0 where
  pub planned : Planned q.plan
  pub chained : Summable q.plan.width q.features chain
  pub chain_size : nat_abs chainSize ≤ 8388608
  pub part_rows : Flat q.plan.m q.plan.width q.part_features
  pub listed : CodedList q.plan.m code size
  pub room : 64 ≤ length chosen
  pub scratch_is : length scratch ≡ q.plan.width
  pub ready : Ready weight scratch (features_of q.plan.width q.features chain)

-- what the best stood for, with the list tried, is what the result stands for
pub record Attempted (q : Told) (chain : List ℕ) (chainSize : ℤ) (code : ℕ) (size : ℤ) (floor : Float) (best : Scored) (r : Best) (scratch : List ℤ) : Type 0 where
  pub stands : (x : Scored) → StandsFor floor x best → StandsFor floor (after_code q.plan q.part_features (chain_total q.plan.width q.features chain chainSize) x code size) r.scored
  pub ready : Ready r.weight scratch (features_of q.plan.width q.features chain)

-- ---- a chain, and one-to-one

-- before the first list
abbrev pub none_tried : Best
none_tried = record { scored = start; weight = None }

-- what scoring a chain asks: its rows and size, the parts' rows, the lists laid down, and the scratch
pub record Scorable (q : Told) (chain : List ℕ) (chainSize : ℤ) (chosen : List ℕ) (scratch : List ℤ) : Type 0 where
  pub planned : Planned q.plan
  pub chained : Summable q.plan.width q.features chain
  pub chain_size : nat_abs chainSize ≤ 8388608
  pub part_rows : Flat q.plan.m q.plan.width q.part_features
  pub coded : Coded q.plan.m q.codes q.list_sizes
  pub room : 64 ≤ length chosen
  pub scratch_is : length scratch ≡ q.plan.width

pub record Matchable (s : Settings) (t : Table) (p : Parts) (chosen : List ℕ) (wholeRow : List ℤ) : Type 0 where
  pub tables : Tables s t p
  pub room : 64 ≤ length chosen
  pub whole_row : length wholeRow ≡ 4 ^ s.k

-- a node alone against the whole haplotype, whose row is summed
unfoldable pub score_alone : Plan → List ℤ → Total → Scored
unfolding list_score greater_of
score_alone plan wholeRow node = greater_of start 0 (list_score plan.s node (total plan.target wholeRow plan.m) 0)

-- the best node
unfoldable pub best_alone : Plan → List ℤ → List ℤ → List ℤ → Lone
unfolding score_alone
best_alone plan sizes features wholeRow =
    over_nodes (λ best node. latest_of best node (score_alone plan wholeRow (node_total plan.width sizes features node))) no_lone 0 (length sizes + 2)

-- the whole haplotype summed, before the rows are gone through
pub record Matching (plan : Plan) (sizes features wholeRow : List ℤ) : Type 0 where
  pub planned : Planned plan
  pub target_small : nat_abs plan.target ≤ 8388608
  pub sized : Sized sizes
  pub rows : Flat (length sizes) plan.width features
  pub width_is : length wholeRow ≡ plan.width
  pub whole_sum : magnitude_sum wholeRow ≤ 8388608
