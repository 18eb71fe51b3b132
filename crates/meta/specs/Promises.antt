-- The promise of each public function, said once: the function's `ensures` and `Unique` (crates/audit) cite it by name.
-- Its arguments are the function's own, in their order, what is lent by what it holds at entry; then the result r.
use Rattle.std.specs.Prelude.{ℕ, ◌≡◌, List, Result}
use Rattle.metrics.specs.declared.refusals.Refusal.{Refusal}
use Rattle.meta.specs.Meta.{new_made, blank_made, combined_two, made_result, combined_result, or_blank}
use Rattle.meta.specs.Words.{meta_of_words, words_of_meta}
use Rattle.meta.specs.Grouping.{all_in_words}
use Rattle.meta.specs.declared.HaplotypeMeta.{HaplotypeMeta}
use Rattle.meta.specs.declared.Combined.{Combined}
use Rattle.meta.specs.declared.NotMade.{NotMade}
use Rattle.meta.specs.declared.NotCombined.{NotCombined}

abbrev pub NewPromise : ℕ → ℕ → Result HaplotypeMeta NotMade → Type 0
NewPromise index samples r = r ≡ made_result (new_made index samples)

abbrev pub NewBlankPromise : ℕ → Result HaplotypeMeta NotMade → Type 0
NewBlankPromise samples r = r ≡ made_result (blank_made samples)

abbrev pub CombinePromise : HaplotypeMeta → HaplotypeMeta → Result Combined NotCombined → Type 0
CombinePromise left right r = r ≡ combined_result (combined_two left right)

abbrev pub MetaOfWordsPromise : List ℕ → HaplotypeMeta → Type 0
MetaOfWordsPromise words r = r ≡ meta_of_words words

abbrev pub WordsOfMetaPromise : HaplotypeMeta → List ℕ → Type 0
WordsOfMetaPromise meta r = r ≡ words_of_meta meta

abbrev pub CombineAllPromise : List ℕ → Result HaplotypeMeta NotMade → Type 0
CombineAllPromise metas r = r ≡ made_result (all_in_words metas)

abbrev pub OrBlankPromise : Result HaplotypeMeta Refusal → HaplotypeMeta → Type 0
OrBlankPromise made r = r ≡ or_blank made
