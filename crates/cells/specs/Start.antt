-- The start of a log: a well-formed state without open transactions, its entries numbered; and what its cells are.
use Rattle.std.specs.Prelude.{◌≡◌, true, false, not, List, [], ◌∷◌, map, ℕ, suc, ◌<◌}
use Rattle.std.proofs.Math.Path.{refl, ap}
use Rattle.std.proofs.Common.{sym, ◌∙◌, inl, inr, arith}
use Rattle.std.proofs.Math.Option.{Option, none, some}
use Rattle.std.proofs.Math.Dec.{eqb}
use borrow.Author.Tests.{eqb-true, eq-eqb, not-false}
use Rattle.lists.specs.Lists.{all, any}
use Rattle.lists.specs.Choices.{is_false, and_intro}
use Rattle.lists.specs.Neither.{or_left_false, or_right_false}
use Rattle.lists.specs.Members.{all-each, all-intro}
use Rattle.semantics.specs.State.{Origin, Entry, State, is_message, owned}
use Rattle.semantics.specs.Serial.{any_open, same_origin}
use Rattle.cells.specs.Origins.{omap, look, same-eq, look-origin, look-all}
use Rattle.cells.specs.ByOrigin.{Uniq}
use Rattle.cells.specs.Actions.{strip}
use Rattle.cells.specs.Simulation.{view, view-some, Good}
use Rattle.cells.specs.Steps.{NoneOpen}
use Rattle.cells.specs.Rename.{rename, Live, Rel}
use Rattle.semantics.specs.declared.Sizes.{Sizes}
use Rattle.wellformed.specs.Entries.{StateRight, Sound}

-- the entries of a start have their places for origins
abbrev pub Numbered : ℕ → List Entry → Type 0
Numbered q [] = Unit
Numbered q (e ∷ es) = (e.origin ≡ record { maker = 0; index = q }) × Numbered (suc q) es

pub record Start (z : Sizes) (s : State) : Type 0 where
  pub sound : Sound z s
  pub numbered : Numbered 0 s.entries
  pub closed : any_open s ≡ false

pub look-numbered : (q : ℕ) (l : List Entry) (o : Origin) → Numbered q l → o.index < q → look o l ≡ none
look-numbered q [] o n h = refl
look-numbered q (e ∷ l) o n h = rw (is_false (same_origin o e.origin) (λ w.
    let z : o.index ≡ q = ap (λ (x : Origin). x.index) (same-eq o e.origin w ∙ n.0) in omega arith)) (look-numbered (suc q) l o n.1 (omega arith))

pub uniq-numbered : (q : ℕ) (l : List Entry) → Numbered q l → Uniq l
uniq-numbered q [] n = tt
uniq-numbered q (e ∷ l) n = (
  look-numbered (suc q) l e.origin n.1
      (let z : e.origin.index ≡ q = ap (λ (x : Origin). x.index) n.0 in omega arith),
  uniq-numbered (suc q) l n.1,
)

pub maker-numbered : (q : ℕ) (l : List Entry) → Numbered q l → all (λ e. eqb e.origin.maker 0) l ≡ true
maker-numbered q [] n = refl
maker-numbered q (e ∷ l) n = and_intro (eq-eqb e.origin.maker 0 (ap (λ (x : Origin). x.maker) n.0)) (maker-numbered (suc q) l n.1)

pub all_closed : (l : List Entry) → any (λ e. not (owned 0 e)) l ≡ false → all (owned 0) l ≡ true
all_closed [] h = refl
all_closed (e ∷ l) h = and_intro (not-false (owned 0 e) (or_left_false (not (owned 0 e)) (any (λ e. not (owned 0 e)) l) h))
    (all_closed l (or_right_false (not (owned 0 e)) (any (λ e. not (owned 0 e)) l) h))

-- a well-formed state without open transactions has only messages
pub closed-messages : (z : Sizes) (s : State) → StateRight z s → any_open s ≡ false → all is_message s.entries ≡ true
closed-messages z s right h = all-intro is_message s.entries
    (λ e m. eq-eqb e.kind 0 ((right.each e m).global (eqb-true e.owner 0 (all-each (owned 0) s.entries (all_closed s.entries h) e m))).0)

pub closed-view : (s : State) → any_open s ≡ false → NoneOpen (view s)
unfolding NoneOpen
closed-view s h o e k = let v = view-some s o e k in ap (λ (x : Entry). x.owner) (sym v.2)
    ∙ eqb-true v.0.owner 0 (look-all (owned 0) o s.entries (all_closed s.entries h) v.1)

module _ (z : Sizes) (s : State) (S : Start z s) where
  pub messages : all is_message s.entries ≡ true
  messages = closed-messages z s S.sound.right S.closed

  pub kind-start : (o : Origin) (e : Entry) → (view s).cell o ≡ some e → e.kind ≡ 0
  kind-start o e k = let v = view-some s o e k in ap (λ (x : Entry). x.kind) (sym v.2)
      ∙ eqb-true v.0.kind 0 (look-all is_message o s.entries messages v.1)

  pub good_start : Good 0 (view s)
  unfolding view NoneOpen
  good_start = record {
    pos = S.sound.next_low;
    makers = λ o e k. let v = view-some s o e k in
        let w : v.0.origin.maker ≡ 0 = eqb-true v.0.origin.maker 0
        (look-all (λ e. eqb e.origin.maker 0) o s.entries (maker-numbered 0 s.entries S.numbered) v.1) in
        let x : v.0.origin.maker ≡ o.maker = ap (λ (x : Origin). x.maker) (look-origin o s.entries v.1) in omega arith;
    below = λ o e k. let w : e.owner ≡ 0 = closed-view s S.closed o e k in let p = S.sound.next_low in omega arith;
    marks = λ o e k z. absurd (z (closed-view s S.closed o e k));
  }

  pub rel-start : Rel s (view s) (λ v. v)
  unfolding view
  rel-start = record {
    uniq = uniq-numbered 0 s.entries S.numbered;
    next-is = refl;
    cells = λ o. id-rename (look o (map strip s.entries));
    zero_is = refl;
    pos = S.sound.next_low;
    inj = λ v w l m h. h;
    below = λ v l. low v l;
  }
    where
      id-rename : (x : Option Entry) → x ≡ omap (rename (λ v. v)) x
      id-rename none = refl
      id-rename (some e) = refl

      low : (v : ℕ) → Live (view s) v → v < (view s).next
      low v (inl z) = let w = good_start.pos in omega arith
      low v (inr (o, e, h, w)) = let x = good_start.below o e h in omega arith
