-- Four numbers by place.
use Rattle.std.specs.Prelude.{ℕ, ◌≡◌, List, [], ◌∷◌, length, get_or}
use Rattle.std.proofs.Common.{sym, ◌∙◌, arith, take_all}
use Rattle.lists.specs.Walk.{take-four}

pub four-places : (f : List ℕ) → length f ≡ 4 → f ≡ get_or f 0 0 ∷ get_or f 1 0 ∷ get_or f 2 0 ∷ get_or f 3 0 ∷ []
four-places f l = sym (take-four f 0 0 (omega arith) ∙ take_all 4 f (omega arith))
