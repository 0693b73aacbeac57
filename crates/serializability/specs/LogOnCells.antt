-- The first log: a run that is accepted is a run on cells, and its moves have their members' marks.
use Rattle.std.specs.Prelude.{◌≡◌, refl, Bool, false, ◌&&◌, ◌⊎◌, eqb}
use Rattle.std.proofs.Common.{sym, ap, ◌∙◌, true≢false, inl, inr, eqb-true, eq-eqb}
use Rattle.std.proofs.Math.Path.{subst}
use Rattle.std.proofs.Math.Bool.{true}
use Rattle.std.proofs.lemmas.Bool.{false≢true}
use Rattle.std.proofs.Math.Option.{some}
use mathlib.Core.List.{List, [], ◌∷◌}
use Prim.Native.Nat.{ℕ, suc}
use Rattle.lists.specs.Lists.{is_empty, is_in, keep, count_if, least}
use Rattle.lists.specs.Choices.{by_bool, clash, and_left, and_right, and_intro}
use Rattle.lists.specs.Numbers.{least-full}
use Rattle.lists.specs.Each.{All, All-map, All-keep, All-unmap}
use Rattle.semantics.specs.Table.{Table, Rule, rule_at, has_role, consumed, begins}
use Rattle.semantics.specs.State.{Origin, Entry, State, is_member_mark}
use Rattle.semantics.specs.Move.{Move, react, commit, abort, picked, on_ports, owners_at, allowed, applied}
use Rattle.semantics.specs.Serial.{origins_of, marks_in, members_of, after, is_end, is_begin}
use Rattle.semantics.specs.declared.Verdict.TheVariants.{Allowed}
use Rattle.serializability.specs.Statement.{Accepted}
use Rattle.cells.specs.Origins.{is_in_o, look}
use Rattle.cells.specs.ByOrigin.{Uniq, look-kept, look-is_in}
use Rattle.cells.specs.Rules.{Shape, plain, begin, inner, Shaped, owners, touched-plain, touched-begin, touched-inner}
use Rattle.cells.specs.Deeds.{Deed, touched, deed_at}
use Rattle.serializability.specs.Keys.{deeds, key_of}
use Rattle.cells.specs.Actions.{Seen, strip, received, astep, Ok}
use Rattle.cells.specs.Moves.{react-passes, after-allowed}
use Rattle.cells.specs.Simulation.{view, view-look, view-some, Good, sim, all_found}
use Rattle.cells.specs.Marks.{MarkAt, mark-stay, first_of, mark_made, touched-live}
use Rattle.serializability.specs.SameKey.{MembersMarked, LogRuns}
use Rattle.cells.specs.Steps.{good-next}

pub ports-some : (ts : List ℕ) (es : List Entry) → is_empty ts ≡ false → on_ports ts es ≡ true → is_empty (owners es) ≡ false
ports-some [] es n h = absurd (true≢false n)
ports-some (t ∷ ts) [] n h = absurd (false≢true h)
ports-some (t ∷ ts) (e ∷ es) n h = refl

origins-some : (o : Origin) (l : List Entry) → is_in_o o (origins_of l) ≡ true → is_empty (origins_of l) ≡ false
origins-some o [] h = absurd (false≢true h)
origins-some o (e ∷ l) h = refl

module _ (t : Table) (sd : Shaped t) (i k : ℕ) (s : State) (r : ℕ) (ps : List ℕ) (u : Uniq s.entries) (g : Good i (view s))
    (K : Ok t (view s) (deed_at t i k s (react r ps))) where
  abbrev pub R : Rule
  R = rule_at t r

  abbrev pub os : List ℕ
  os = owners_at s ps

  abbrev the_deed : Deed
  the_deed = deed_at t i k s (react r ps)

  abbrev in_os : Entry → Bool
  in_os e = is_member_mark e && is_in e.owner os

  -- the members of a reaction in transactions: the marks there
  inner-marks : touched t s (react r ps) ≡ os → All (λ o. MarkAt (astep t (view s) the_deed).cell o (least (touched t s (react r ps)))) (marks_in os s)
  unfolding astep
  inner-marks q = All-unmap (λ e. e.origin) (λ o. MarkAt (astep t (view s) the_deed).cell o (least (touched t s (react r ps)))) (keep in_os s.entries)
      (All-keep (λ e. MarkAt (astep t (view s) the_deed).cell e.origin (least (touched t s (react r ps)))) in_os s.entries
      (All-map {P = λ e. look e.origin s.entries ≡ some e} {Q = λ e. in_os e ≡ true → MarkAt (astep t (view s) the_deed).cell e.origin
      (least (touched t s (react r ps)))} (λ e h z. at e h z) s.entries (all_found s.entries u)))
    where
      at : (e : Entry) → look e.origin s.entries ≡ some e → in_os e ≡ true
          → MarkAt (astep t (view s) the_deed).cell e.origin (least (touched t s (react r ps)))
      at e h z =
          let w : is_in e.owner (touched t s (react r ps)) ≡ true = subst (λ (l : List ℕ). is_in e.owner l ≡ true) (sym q)
          (and_right (is_member_mark e) (is_in e.owner os) z) in
          let m = mark-stay t (view s).cell the_deed K.es (received (view s) the_deed) e.origin (strip e) (react r ps) K.tests K.found
          (λ x. absurd (false≢true x)) (view-look s e.origin e h) (eqb-true e.kind 3 (and_left (is_member_mark e) (is_in e.owner os) z)) in
          (m.0, m.1, m.2, m.3 ∙ rw w)

  begin-marks : begins R ≡ true → MarkAt (astep t (view s) the_deed).cell (first_of i) (least (touched t s (react r ps)))
  unfolding astep
  begin-marks b = mark_made t sd (view s).cell the_deed (received (view s) the_deed) (react r ps) b (K.fresh (first_of i) refl)

  inner-some : begins R ≡ false → touched t s (react r ps) ≡ os → is_empty os ≡ false → is_empty (marks_in os s) ≡ false
  inner-some b q n =
      let h : is_in (least os) (touched t s (react r ps)) ≡ true = subst (λ (x : List ℕ). is_in (least os) x ≡ true) (sym q) (least-full os n) in
      let l = touched-live t sd (view s) the_deed K b (least os) h in
      let m = g.marks l.0 l.1 l.2 (λ z. clash h (rw (sym l.3 ∙ z) K.no_zero)) in
      there m.0 m.1 m.2 m.3 (rw (m.4 ∙ l.3) (least-full os n))
    where
      seen : (o : Origin) (e d : Entry) → look o s.entries ≡ some d → strip d ≡ e → e.kind ≡ 3 → is_in e.owner os ≡ true → is_empty (marks_in os s) ≡ false
      seen o e d h q k w =
          let x : d.kind ≡ 3 = ap (λ (x : Entry). x.kind) q ∙ k in
          let y : is_in d.owner os ≡ true = subst (λ (x : Entry). is_in x.owner os ≡ true) (sym q) w in
          origins-some o (keep in_os s.entries) (look-is_in o (keep in_os s.entries) d
          (look-kept in_os o s.entries d u h (and_intro (eq-eqb d.kind 3 x) y)))

      there : (o : Origin) (e : Entry) → (view s).cell o ≡ some e → e.kind ≡ 3 → is_in e.owner os ≡ true → is_empty (marks_in os s) ≡ false
      there o e h k w = let v = view-some s o e h in seen o e v.0 v.1 v.2 k w

  -- what a reaction's members are, by the sort of its rule
  members_plain : R.class ≡ 0 → begins R ≡ false → members_of t i s (react r ps) ≡ []
  members_plain c b = rw (b, c)

  members-begin : begins R ≡ true → count_if (has_role 1) R.atoms ≡ 0 → members_of t i s (react r ps) ≡ first_of i ∷ []
  members-begin b n = rw (b, n)

  members-inner : eqb R.class 0 ≡ false → begins R ≡ false → members_of t i s (react r ps) ≡ marks_in os s
  members-inner c b = rw (b, c)

  marked-react : is_empty (consumed R) ≡ true ⊎ (is_empty os ≡ false) → MembersMarked t (view s) the_deed
  unfolding touched astep
  marked-react ne _ = go (sd r)
    where
      Right : List Origin → List ℕ → Type 0
      Right ms bs = All (λ o. MarkAt (astep t (view s) the_deed).cell o (least (touched t s (react r ps)))) ms × (is_empty ms ≡ is_empty bs)

      go : Shape R → Right (members_of t i s (react r ps)) (touched t s (react r ps))
      go (plain c b h) = (rw (members_plain c b) tt, rw (members_plain c b, touched-plain R s.next os c b))
      go (begin c b h m rest q w k) = (
        rw (members-begin b h) (begin-marks b, tt),
        rw (members-begin b h, touched-begin R s.next os b),
      )
      go (inner c b h k) = (
        rw (members-inner c b) (inner-marks (touched-inner R s.next os c b)),
        rw (members-inner c b, touched-inner R s.next os c b, inner-some b (touched-inner R s.next os c b) (full ne h)) (sym (full ne h)),
      )
        where
          full : is_empty (consumed R) ≡ true ⊎ (is_empty os ≡ false) → is_empty (consumed R) ≡ false → is_empty os ≡ false
          full (inl x) y = absurd (clash x y)
          full (inr x) y = x

marked-of : (t : Table) → Shaped t → (i k : ℕ) (s : State) (m : Move) → Uniq s.entries → Good i (view s) → Ok t (view s) (deed_at t i k s m)
    → allowed t s m ≡ Allowed → MembersMarked t (view s) (deed_at t i k s m)
marked-of t sd i k s (react r ps) u g K h = marked-react t sd i k s r ps u g K
    (by_bool (is_empty (consumed (rule_at t r))) (λ n. inl n) (λ n. inr (ports-some (consumed (rule_at t r)) (picked s ps) n (react-passes t s r ps h).ports)))
marked-of t sd i k s (commit b) u g K h = λ z. absurd (true≢false z)
marked-of t sd i k s (abort b) u g K h = λ z. absurd (true≢false z)

first-of : (t : Table) → Shaped t → (i : ℕ) (s : State) (m : Move) → is_begin t m ≡ true → members_of t i s m ≡ first_of i ∷ []
first-of t sd i s (react r ps) h = go (sd r)
  where
    go : Shape (rule_at t r) → members_of t i s (react r ps) ≡ first_of i ∷ []
    go (plain c b n) = absurd (clash h b)
    go (begin c b n m rest q w k) = rw (b, n)
    go (inner c b n k) = absurd (clash h b)
first-of t sd i s (commit b) h = absurd (false≢true h)
first-of t sd i s (abort b) h = absurd (false≢true h)

-- ---- the whole log

pub log-runs : (t : Table) → Shaped t → (i : ℕ) (s : State) (ms : List Move) (e : State) → Uniq s.entries → Good i (view s) → Accepted t i s ms e
    → LogRuns t i (view s) (deeds t i s ms) (view e) × Uniq e.entries
unfolding deeds
log-runs t sd i s [] e u g h = (ap view h, subst (λ (x : State). Uniq x.entries) h u)
log-runs t sd i s (m ∷ ms) e u g h =
    let k = key_of (is_end m) i (touched t s m) (deeds t (suc i) (after t (suc i) s m) ms) in
    let S = sim t sd i k s m u g h.0 in
    let a = deed_at t i k s m in
    let q : applied t (suc i) s m ≡ after t (suc i) s m = sym (after-allowed t (suc i) s m h.0) in
    let c : view (after t (suc i) s m) ≡ astep t (view s) a = ap view (sym q) ∙ S.same-cells in
    let r = log-runs t sd (suc i) (after t (suc i) s m) ms e (subst (λ (x : State). Uniq x.entries) q S.uniq)
    (subst (λ (F : Seen). Good (suc i) F) (sym c) (good-next t sd i (view s) a g S.step)) (subst (λ (x : State). Accepted t (suc i) x ms e) q h.1) in (
      (
        record { step = S.step; key = refl; marked = marked-of t sd i k s m u g S.step.ok h.0; first = first-of t sd i s m },
        subst (λ (F : Seen). LogRuns t (suc i) F (deeds t (suc i) (after t (suc i) s m) ms) (view e)) c r.0,
      ),
      r.1,
    )
