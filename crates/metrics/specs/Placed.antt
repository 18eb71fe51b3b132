-- What a lent slice holds once a list was laid at its front.
use Rattle.std.specs.Prelude.{List, ◌++◌, length, drop}

-- new at the front, the rest as it was
abbrev pub placed : {A : Type 0} → List A → List A → List A
placed old new = new ++ drop (length new) old
