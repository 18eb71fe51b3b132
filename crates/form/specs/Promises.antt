-- The promise of each public function, said once: the function's `ensures` and `Unique` (crates/audit) cite it by name.
-- Its arguments are the function's own, in their order, a lent slice by what it holds at entry; then what each `&mut` holds at exit; then the result r.
use Rattle.std.specs.Prelude.{ℕ, ◌≡◌, List, Result}
use Rattle.std.proofs.lemmas.List.Edits.{sets}
use Rattle.metrics.specs.declared.refusals.Refusal.{Refusal}
use Rattle.metrics.specs.Refusals.{told}
use Rattle.params.specs.declared.Settings.{Settings}
use Rattle.form.specs.Form.{kind_of, body_len, record_at}
use Rattle.form.specs.Settings40.{settings_in, settings_bytes}
use Rattle.form.specs.Settings41.{settings41_in, settings41_bytes, settings41_fault}
use Rattle.form.specs.Job.{edition_of, settings_by, read_job}
use Rattle.form.specs.Lent.{scan_of}
use Rattle.form.specs.declared.records.Kind.{Kind}
use Rattle.form.specs.declared.records.Edition.{Edition}
use Rattle.form.specs.declared.records.Record.{Record}
use Rattle.form.specs.declared.records.Counts.{Counts}

abbrev pub KindOfPromise : ℕ → Kind → Type 0
KindOfPromise byte r = r ≡ kind_of byte

abbrev pub BodyLenPromise : Kind → ℕ → Type 0
BodyLenPromise kind r = r ≡ body_len kind

abbrev pub RecordAtPromise : List ℕ → ℕ → Record → Type 0
RecordAtPromise s at r = r ≡ record_at s at

abbrev pub ScanPromise : List ℕ → Result Counts Refusal → Type 0
ScanPromise bytes r = r ≡ scan_of (read_job bytes)

abbrev pub EditionOfPromise : List ℕ → Edition → Type 0
EditionOfPromise s r = r ≡ edition_of s

abbrev pub SettingsByPromise : Edition → List ℕ → Settings → Type 0
SettingsByPromise e b r = r ≡ settings_by e b

abbrev pub ReadSettingsPromise : List ℕ → Settings → Type 0
ReadSettingsPromise b r = r ≡ settings_in b

abbrev pub WriteSettingsPromise : List ℕ → ℕ → Settings → List ℕ → Type 0
WriteSettingsPromise out at s out' = out' ≡ sets out at (settings_bytes s)

abbrev pub ReadSettings41Promise : List ℕ → Settings → Type 0
ReadSettings41Promise b r = r ≡ settings41_in b

abbrev pub WriteSettings41Promise : List ℕ → ℕ → Settings → List ℕ → Type 0
WriteSettings41Promise out at s out' = out' ≡ sets out at (settings41_bytes s)

abbrev pub Settings41FaultPromise : List ℕ → Result Unit Refusal → Type 0
Settings41FaultPromise b r = told r ≡ settings41_fault b
