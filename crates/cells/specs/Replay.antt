-- The serial log: moves that are allowed on the cells one after another are accepted, each again on the entries of the same origins.
use Rattle.std.specs.Prelude.{◌≡◌, false, List, [], ◌∷◌, map, ℕ, suc}
use Rattle.std.proofs.Math.Path.{refl, ap, subst}
use Rattle.std.proofs.Common.{sym, ◌∙◌, arith}
use Rattle.lists.specs.Lists.{least}
use Rattle.lists.specs.Each.{All}
use Rattle.semantics.specs.Table.{Table}
use Rattle.semantics.specs.State.{Origin, State, mark_values}
use Rattle.semantics.specs.Move.{Move, react, commit, abort, picked, entries_in, allowed, applied}
use Rattle.semantics.specs.Serial.{Act, origins_of, marks_in, members_of, after, is_begin, again}
use Rattle.semantics.specs.declared.Verdict.TheVariants.{Allowed}
use Rattle.wellformed.specs.Rules.{TableRight}
use Rattle.wellformed.specs.Entries.{Sound}
use Rattle.wellformed.specs.Preservation.{RuleKnown, applied-keeps}
use Rattle.cells.specs.Origins.{is_in_o}
use Rattle.cells.specs.ByOrigin.{Uniq}
use Rattle.cells.specs.Rules.{Shaped}
use Rattle.cells.specs.Deeds.{Deed, with_move, act_of}
use Rattle.cells.specs.Actions.{Seen, end-ok, action_by, astep, Ok, Runs}
use Rattle.cells.specs.Moves.{react-allowed, after-allowed}
use Rattle.cells.specs.SmallestId.{Named, named-of, smallest}
use Rattle.cells.specs.Rename.{Rel}
use Rattle.cells.specs.ReplayReact as React
use Rattle.cells.specs.ReplayEnd as End

-- a move whose picks have the origins os, or which ends the members of the origins os, again in c
pub data Again (c : State) (os : List Origin) : Move → Move → Type 0 where
  reacts : (r : ℕ) (ps ps' : List ℕ) → origins_of (picked c ps') ≡ os → Again c os (react r ps) (react r ps')
  commits : (b b' : ℕ) → ((o : Origin) → is_in_o o (marks_in (b' ∷ []) c) ≡ is_in_o o os) → b' ≡ least (mark_values (entries_in b' c))
      → Again c os (commit b) (commit b')
  aborts : (b b' : ℕ) → ((o : Origin) → is_in_o o (marks_in (b' ∷ []) c) ≡ is_in_o o os) → b' ≡ least (mark_values (entries_in b' c))
      → Again c os (abort b) (abort b')

-- ---- one move

pub record Next (t : Table) (c : State) (F : Seen) (a : Deed) (m : Move) : Type 0 where
  pub made_again : Again c a.picks a.move m
  pub members : is_begin t a.move ≡ false → (o : Origin) → is_in_o o (members_of t a.place c m) ≡ is_in_o o a.members
  pub allows : allowed t c m ≡ Allowed
  pub names : ℕ → ℕ
  pub rel : Rel (applied t (suc a.place) c m) (astep t F a) names

module _ (t : Table) (sd : Shaped t) (c : State) (F : Seen) (ρ : ℕ → ℕ) (rel : Rel c F ρ) (N : Named c) (a : Deed) where
  abbrev pub NextBy : Move → Type 0
  NextBy m = Ok t F (with_move a m) → Next t c F (with_move a m) (again c (act_of (with_move a m)) m)

  pub react-next : (r : ℕ) (ps : List ℕ) → NextBy (react r ps)
  unfolding again astep action_by applied
  react-next r ps k = record {
    made_again = reacts r ps (React.qs t sd c F ρ rel a r ps k) (React.seen-again t sd c F ρ rel a r ps k).1;
    members = React.members-again t sd c F ρ rel a r ps k;
    allows = react-allowed t c r (React.qs t sd c F ρ rel a r ps k) (React.passes t sd c F ρ rel a r ps k);
    names = React.ρ' t sd c F ρ rel a r ps k;
    rel = React.rel-react t sd c F ρ rel a r ps k;
  }

  pub commit-next : (x : ℕ) → NextBy (commit x)
  unfolding again astep action_by applied allowed
  commit-next x k =
      let d = with_move a (commit x) in
      let E = end-ok t F d k refl in
      let b = ρ (least a.touched) in
      let moved : Next t c F d (commit b) = record {
        made_again = commits x b (End.members-same c F ρ rel N d E) (smallest c rel.uniq N b (End.own-there c F ρ rel N d E));
        members = λ _ o. End.members-same c F ρ rel N d E o ∙ ap (is_in_o o) (sym E.members);
        allows = rw (End.open-there c F ρ rel N d E, End.may-commit c F ρ rel N d E t k.whole.0);
        names = ρ;
        rel = End.rel-end c F ρ rel N d E 0 (omega arith);
      } in
      subst (λ (b : ℕ). Next t c F d (commit b)) (sym (End.least-members c F ρ rel N d E)) moved

  pub abort-next : (x : ℕ) → NextBy (abort x)
  unfolding again astep action_by applied allowed
  abort-next x k =
      let d = with_move a (abort x) in
      let E = end-ok t F d k refl in
      let b = ρ (least a.touched) in
      let moved : Next t c F d (abort b) = record {
        made_again = aborts x b (End.members-same c F ρ rel N d E) (smallest c rel.uniq N b (End.own-there c F ρ rel N d E));
        members = λ _ o. End.members-same c F ρ rel N d E o ∙ ap (is_in_o o) (sym E.members);
        allows = rw (End.open-there c F ρ rel N d E, End.may-abort c F ρ rel N d E k.whole.0);
        names = ρ;
        rel = End.rel-end c F ρ rel N d E 1 (omega arith);
      } in
      subst (λ (b : ℕ). Next t c F d (abort b)) (sym (End.least-members c F ρ rel N d E)) moved

  pub next-made : Ok t F a → Next t c F a (again c (act_of a) a.move)
  next-made k = go a.move k
    where
      go : (mv : Move) → NextBy mv
      go (react r ps) = react-next r ps
      go (commit x) = commit-next x
      go (abort x) = abort-next x

-- ---- all moves

-- each move again is allowed, as the maker that it is in the first log, and the last one leaves e
abbrev pub Goes : Table → State → List Act → State → Type 0
Goes t c [] e = c ≡ e
Goes t c (a ∷ xs) e = (allowed t c (again c a a.move) ≡ Allowed) × Goes t (after t (suc a.place) c (again c a a.move)) xs e

-- m is a again in c: on the same picks and with the same members
pub record AgainAs (t : Table) (c : State) (a : Deed) (m : Move) : Type 0 where
  pub same : Again c a.picks a.move m
  pub members : is_begin t a.move ≡ false → (o : Origin) → is_in_o o (members_of t a.place c m) ≡ is_in_o o a.members

abbrev pub Agains : Table → State → List Deed → Type 0
Agains t c [] = Unit
Agains t c (a ∷ xs) = Uniq c.entries × AgainAs t c a (again c (act_of a) a.move) × Agains t (after t (suc a.place) c (again c (act_of a) a.move)) xs

pub record Ends (t : Table) (c : State) (xs : List Deed) (G : Seen) : Type 0 where
  pub state : State
  pub names : ℕ → ℕ
  pub all_go : Goes t c (map act_of xs) state
  pub agains : Agains t c xs
  pub rel : Rel state G names
  pub sound : Sound t.sizes state

pub again-known : (t : Table) (c : State) (a : Act) (m : Move) → RuleKnown t m → RuleKnown t (again c a m)
unfolding again
again-known t c a (react r ps) h = h
again-known t c a (commit b) h = tt
again-known t c a (abort b) h = tt

pub replay-runs : (t : Table) → TableRight t → Shaped t → (xs : List Deed) (c : State) (F G : Seen) (ρ : ℕ → ℕ) → Rel c F ρ → Sound t.sizes c
    → All (λ a. RuleKnown t a.move) xs → Runs t F xs G → Ends t c xs G
replay-runs t right sd [] c F G ρ rel sound known h = record {
  state = c;
  names = ρ;
  all_go = refl;
  agains = tt;
  rel = subst
      (λ (H : Seen). Rel c H ρ) h rel;
  sound = sound;
}
replay-runs t right sd (a ∷ xs) c F G ρ rel sound known h =
    let n = next-made t sd c F ρ rel (named-of t.sizes c rel.uniq sound.right) a h.0 in
    let m = again c (act_of a) a.move in
    let q : applied t (suc a.place) c m ≡ after t (suc a.place) c m = sym (after-allowed t (suc a.place) c m n.allows) in
    let still = applied-keeps right sound (suc a.place) m (again-known t c (act_of a) a.move known.0) n.allows in
    let e = replay-runs t right sd xs (after t (suc a.place) c m) (astep t F a) G n.names
    (subst (λ (x : State). Rel x (astep t F a) n.names) q n.rel)
    (subst (Sound t.sizes) q still) known.1 h.1 in
    record {
      state = e.state;
      names = e.names;
      all_go = (n.allows, e.all_go);
      agains = (rel.uniq, record { same = n.made_again; members = n.members }, e.agains);
      rel = e.rel;
      sound = e.sound;
    }
