-- How many entries a move leaves.
use Rattle.std.specs.Prelude.{ℕ, suc, ◌+◌, ◌≤◌, Bool, List, [], ◌∷◌, map, ◌≡◌, refl, length}
use Rattle.std.proofs.Common.{sym, ap, ◌∙◌, arith, length-append}
use Rattle.std.proofs.lemmas.List.{length-map}
use Rattle.lists.specs.Lists.{keep, without}
use Rattle.lists.specs.Counting.{length-keep, count-le}
use Rattle.semantics.specs.Table.{Table, Rule, rule_at, product_atoms}
use Rattle.semantics.specs.State.{Entry, State, is_message, is_compensation}
use Rattle.semantics.specs.Move.{Move, react, commit, abort, picked, owners_at, merged, products, reacted, freed, ended, applied}
use Rattle.semantics.specs.declared.Atom.{Atom}
use Rattle.wellformed.specs.Ends.{stays}

pub length-products : (R : Rule) (s : State) (es : List Entry) (i q : ℕ) (atoms : List Atom) → length (products R s es i q atoms) ≡ length atoms
length-products R s es i q [] = refl
length-products R s es i q (a ∷ atoms) = ap suc (length-products R s es i (suc q) atoms)

pub length-reacted : (R : Rule) (i : ℕ) (s : State) (ps : List ℕ)
    → length (reacted R i s ps).entries ≡ length (without ps 0 s.entries) + length (product_atoms R)
unfolding reacted
length-reacted R i s ps =
    length-append (map (merged (owners_at s ps)) (without ps 0 s.entries)) (products R s (picked s ps) i 0 (product_atoms R))
    ∙ rw (length-map (without ps 0 s.entries) (merged (owners_at s ps)), length-products R s (picked s ps) i 0 (product_atoms R))

-- the maker of the products does not change how many there are
pub length-maker : (t : Table) (i j : ℕ) (s : State) (m : Move) → length (applied t i s m).entries ≡ length (applied t j s m).entries
unfolding applied
length-maker t i j s (react r ps) = length-reacted (rule_at t r) i s ps ∙ sym (length-reacted (rule_at t r) j s ps)
length-maker t i j s (commit b) = refl
length-maker t i j s (abort b) = refl

pub length-ended : (p : Entry → Bool) (b : ℕ) (s : State) → length (ended p b s).entries ≤ length s.entries
unfolding ended
length-ended p b s =
    let a = length-map (keep (stays p b) s.entries) (freed p b) in
    let c = length-keep (stays p b) s.entries in
    let l = count-le (stays p b) s.entries in
    omega arith

-- an end never grows a state
pub length-commit : (t : Table) (i : ℕ) (s : State) (b : ℕ) → length (applied t i s (commit b)).entries ≤ length s.entries
unfolding applied
length-commit t i s b = length-ended is_message b s

pub length-abort : (t : Table) (i : ℕ) (s : State) (b : ℕ) → length (applied t i s (abort b)).entries ≤ length s.entries
unfolding applied
length-abort t i s b = length-ended is_compensation b s
