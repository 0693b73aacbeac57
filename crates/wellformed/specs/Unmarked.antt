-- The first entries of a state that are no abort marks stay so, as many as no more than were taken out: what comes stands at the end.
use Rattle.std.specs.Prelude.{ℕ, ◌+◌, ◌-◌, ◌≤◌, Bool, true, false, ◌&&◌, ◌||◌, not, cond, List, ◌++◌, map, ◌≡◌, eqb, length, take, drop}
use Rattle.std.proofs.lemmas.Bool.{false≢true}
use Rattle.std.proofs.lemmas.List.{map-append, length-map}
use Rattle.std.proofs.Common.{append_assoc, sym, ap, ◌∙◌, arith, length-append, length-drop, take-append-drop}
use Rattle.lists.specs.Lists.{any, keep, without}
use Rattle.lists.specs.Choices.{and_right}
use Rattle.lists.specs.Parts.{keep_append, any-map}
use Rattle.lists.specs.Counting.{any-weaker}
use Rattle.lists.specs.TupleCount.{keep-le}
use Rattle.lists.specs.Found.{none-front, any-keep}
use Rattle.lists.specs.Removed.{without-append, without-le, none-without}
use Rattle.semantics.specs.Table.{Rule, product_atoms}
use Rattle.semantics.specs.State.{Entry, State, is_abort_mark, owned}
use Rattle.semantics.specs.Move.{picked, owners_at, merged, products, reacted, to_global, freed, ended}
use Rattle.wellformed.specs.Picks.{ReactGiven, left-length}

-- the first n entries are no abort marks
abbrev pub Unmarked : ℕ → List Entry → Type 0
Unmarked n es = any is_abort_mark (take n es) ≡ false

module _ (n : ℕ) (es : List Entry) (few : n ≤ length es) where
  parts : es ≡ take n es ++ drop n es
  parts = sym (take-append-drop n es)

  rest : length (drop n es) ≡ length es - n
  rest = length-drop n es

pub reacted-unmarked : (R : Rule) (i : ℕ) (s : State) (ps : List ℕ) → ReactGiven R s ps → (n : ℕ) → n ≤ length s.entries → Unmarked n s.entries
    → Unmarked (n - length ps) (reacted R i s ps).entries
unfolding reacted
reacted-unmarked R i s ps g n few h =
    let es = s.entries in
    let a = without ps 0 (take n es) in
    let b = without ps (0 + length (take n es)) (drop n es) in
    let new = products R s (picked s ps) i 0 (product_atoms R) in
    let split : without ps 0 es ≡ a ++ b = ap (without ps 0) (parts n es few) ∙ without-append ps 0 (take n es) (drop n es) in
    let long = length-append a b in
    let left = left-length g in
    let same = ap length split in
    let behind = without-le ps (0 + length (take n es)) (drop n es) in
    let count = rest n es few in
    let m = merged (owners_at s ps) in
    let whole : map m (without ps 0 es) ++ new ≡ map m a ++ (map m b ++ new) =
    ap (λ (l : List Entry). map m l ++ new) split ∙ ap (λ (l : List Entry). l ++ new) (map-append m a b) ∙ append_assoc (map m a) (map m b) new in
    ap (λ (l : List Entry). any is_abort_mark (take (n - length ps) l)) whole
    ∙ none-front is_abort_mark (n - length ps) (map m a) (map m b ++ new) (omega (arith, length-map a m))
    (any-map m is_abort_mark a ∙ none-without is_abort_mark ps 0 (take n es) h)

pub ended-unmarked : (kind b : ℕ) (s : State) (n : ℕ) → n ≤ length s.entries → Unmarked n s.entries
    → Unmarked (n - (length s.entries - length (ended (λ e. eqb e.kind kind) b s).entries)) (ended (λ e. eqb e.kind kind) b s).entries
unfolding ended
ended-unmarked kind b s n few h =
    let es = s.entries in
    let p : Entry → Bool = λ e. eqb e.kind kind in
    let q : Entry → Bool = λ e. not (owned b e) || p e in
    let f = freed p b in
    let a = keep q (take n es) in
    let c = keep q (drop n es) in
    let split : keep q es ≡ a ++ c = ap (keep q) (parts n es few) ∙ keep_append q (take n es) (drop n es) in
    let whole : map f (keep q es) ≡ map f a ++ map f c = ap (map f) split ∙ map-append f a c in
    let long = length-append a c in
    let same = ap length split in
    let kept = length-map (keep q es) f in
    let behind = keep-le q (drop n es) in
    let count = rest n es few in
    let away = length es - length (map f (keep q es)) in
    ap (λ (l : List Entry). any is_abort_mark (take (n - away) l)) whole
    ∙ none-front is_abort_mark (n - away) (map f a) (map f c) (omega (arith, length-map a f))
    (any-map f is_abort_mark a ∙ any-weaker (λ e. is_abort_mark (f e)) is_abort_mark (λ e k. still (owned b e && p e) e k) a
    (sym (any-keep is_abort_mark q (take n es))
    ∙ any-weaker (λ e. q e && is_abort_mark e) is_abort_mark (λ e k. and_right (q e) (is_abort_mark e) k) (take n es) h))
  where
    still : (c : Bool) (e : Entry) → is_abort_mark (cond c (to_global e) e) ≡ true → is_abort_mark e ≡ true
    still true e k = absurd (false≢true k)
    still false e k = k
