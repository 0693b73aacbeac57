-- The loop of the first pass: at place i the moves before it are run and recorded.
use Prim.Native.Nat.{ℕ, suc, ◌+◌, ◌-◌, ◌*◌, ◌≤◌, ◌<◌}
use mathlib.Core.Bool.{Bool, true, false, cond}
use mathlib.Core.List.{List, [], ◌∷◌, ◌++◌, map, append-nil, append_assoc}
use mathlib.Core.Path.{◌≡◌, refl, sym, ap, subst, ◌∙◌}
use native.Mathlib.Numerals.{add-one}
use native.Mathlib.Omega.{arith}
use lib.Dec.{eqb}
use lib.ListN.{length, get_or, take, drop, set, length-set, length-map}
use lib.Seq.{get_or-set_same, get_or-set_other, length-take-le}
use Rattle.lists.specs.Fronts.{part-kept}
use Rattle.lists.specs.Each.{All, All-map, All-append}
use Rattle.semantics.specs.Table.{Table, sizes_of, table_of}
use Rattle.semantics.specs.State as semantics
use Rattle.semantics.specs.Move.{Stepped, to, refused, move_of, picks_used, applied, step, step_words}
use Rattle.semantics.specs.Log.{move_count, move_at, moves_of, completed, onward, run}
use Rattle.semantics.specs.Serial.{Act, picks_of, members_of, after, acts}
use Rattle.semantics.specs.declared.Refusal.{Refusal}
use Rattle.semantics.specs.declared.Verdict.TheVariants.{Allowed, Denied}
use Rattle.wellformed.specs.Verdicts.{denied≢allowed}
use Rattle.wellformed.specs.Tables.{sizes-table_of}
use Rattle.wellformed.specs.Rules.{table-right}
use Rattle.wellformed.specs.Step.{AcceptedMove, accepted-move}
use Rattle.wellformed.specs.Held.{Held, step-holds}
use Rattle.cells.specs.Shapes.{table-shaped}
use Rattle.state.specs.declared.State.{State}
use Rattle.words.specs.Origin.{origin_of, first_product}
use Rattle.state.specs.Working.{state_in}
use Rattle.step.specs.declared.make.Made.{Made}
use Rattle.step.specs.Make.{MadeAs}
use Rattle.run.specs.declared.Ran.{Ran}
use Rattle.run.specs.Runs.{reached-refused, reached-end}
use Rattle.run.specs.Fold.{gather_by, fold_log, Folded, folded_start, folded-made, folded-end}
use Rattle.serial_laws.specs.Acts.{Recorded, ends_begun, end_after}
use Rattle.recording.specs.Marks.{Lent, OneOf}
use Rattle.recording.specs.Recordings.{words_at, concerned_by, mark_by, MoveNoted, if_grown, Recordable, RecordRoom, RecordedAs}
use Rattle.recording.proofs.Copying.{picks-before, picks-here}
use Rattle.recording.proofs.Tracking.{Tracked, tracked-start, tracked-next}
use Rattle.recording.proofs.Acting.{Legal, used-few, member-noted, picks-origins, ends-marks}

-- ---- recorded, and out of reach of what is written from place i on
record Done (t : Table) (l origins members : List ℕ) (i : ℕ) (a : Act) : Type 0 where
  past : a.place < i
  few : length a.picks ≤ 4
  recorded : Recorded t l origins members a

done-kept : (t : Table) (l origins origins' members members' : List ℕ) (i : ℕ) → take (4 * i) origins' ≡ take (4 * i) origins
    → ((p : ℕ) → p < i → get_or members' p 0 ≡ get_or members p 0) → (a : Act) → Done t l origins members i a → Done t l origins' members' (i + 1) a
done-kept t l origins origins' members members' i e m a d =
    let same = m a.place d.past in
    record {
      past = omega (arith, d.past);
      few = d.few;
      recorded = record {
        move = d.recorded.move;
        picks = d.recorded.picks
            ∙ ap (map origin_of) (sym (part-kept (4 * a.place) (length a.picks) (4 * i) origins' origins e (omega (arith, d.past, d.few))));
        some = rw same d.recorded.some;
        none = rw same d.recorded.none;
      };
    }

end_after-more : (p e : ℕ) (xs : List Act) (a : Act) → end_after p e (xs ++ a ∷ []) ≡ cond (ends_begun p a) a.place (end_after p e xs)
end_after-more p e [] a = refl
end_after-more p e (x ∷ xs) a = end_after-more p (cond (ends_begun p x) x.place e) xs a

after-accepted : (ceiling : ℕ) (t : Table) (i : ℕ) (s : semantics.State) (w : List ℕ) (s' : semantics.State) → step_words ceiling t i s w ≡ to s'
    → after t i s (move_of t w) ≡ s'
unfolding after step
after-accepted ceiling t i s w s' e = let a = accepted-move ceiling t i s w s' e in rw (a.allows, a.result)

grown-length : (begun : List ℕ) (at w : ℕ) (c : Bool) → length (cond c begun (set begun at w)) ≡ length begun
grown-length begun at w true = refl
grown-length begun at w false = length-set begun at w

-- a word at place i in two steps
module _ (members : List ℕ) (i w v : ℕ) where
  grown-size : (c : Bool) → length (cond c (set members i w) (set (set members i w) i v)) ≡ length members
  grown-size true = length-set members i w
  grown-size false = length-set (set members i w) i v ∙ length-set members i w

  grown-other : (c : Bool) (p : ℕ) → (p ≡ i → ⊥) → get_or (cond c (set members i w) (set (set members i w) i v)) p 0 ≡ get_or members p 0
  grown-other true p n = get_or-set_other members i p w 0 n
  grown-other false p n = get_or-set_other (set members i w) i p v 0 n ∙ get_or-set_other members i p w 0 n

  grown-here : (c : Bool) → i < length members → get_or (cond c (set members i w) (set (set members i w) i v)) i 0 ≡ cond c w v
  grown-here true l = get_or-set_same members i w 0 l
  grown-here false l = get_or-set_same (set members i w) i v 0 (omega (arith, length-set members i w))

-- ---- the acts of an accepted log, as a fold over it

abbrev act_at : Table → ℕ → semantics.State → List ℕ → Act
act_at t i s w = record { place = i; move = move_of t w; picks = picks_of s (move_of t w); members = members_of t i s (move_of t w) }

abbrev add_act : Table → ℕ → semantics.State → List ℕ → semantics.State → List Act → List Act
add_act t i s w s' xs = xs ++ act_at t i s w ∷ []

abbrev add_none : ℕ → semantics.State → Refusal → List Act → List Act
add_none i s q xs = xs

acts-fold : (ceiling : ℕ) (t : Table) (i : ℕ) (s : semantics.State) (ms : List (List ℕ)) (e : semantics.State) (xs : List Act)
    → run ceiling t i s ms ≡ completed e
    → fold_log (add_act t) add_none ceiling t i s ms xs ≡ xs ++ acts t i s (map (move_of t) ms)
unfolding fold_log acts run
acts-fold ceiling t i s [] e xs h = sym (append-nil xs)
acts-fold ceiling t i s (m ∷ ms) e xs h = go (λ s' ys k. acts-fold ceiling t (suc i) s' ms e ys k) (step_words ceiling t (suc i) s m) refl h
  where
    go : ((s' : semantics.State) (ys : List Act) → run ceiling t (suc i) s' ms ≡ completed e
        → fold_log (add_act t) add_none ceiling t (suc i) s' ms ys ≡ ys ++ acts t (suc i) s' (map (move_of t) ms))
        → (x : Stepped) → step_words ceiling t (suc i) s m ≡ x → onward x i (λ s'. run ceiling t (suc i) s' ms) ≡ completed e
        → gather_by (add_act t) add_none ceiling t x i s m xs (λ s' a'. fold_log (add_act t) add_none ceiling t (suc i) s' ms a')
        ≡ xs ++ act_at t i s m ∷ acts t (suc i) (after t (suc i) s (move_of t m)) (map (move_of t) ms)
    go ih (to s') q k =
        ih s' (xs ++ act_at t i s m ∷ []) k
        ∙ append_assoc xs (act_at t i s m ∷ []) (acts t (suc i) s' (map (move_of t) ms))
        ∙ ap (λ (z : semantics.State). xs ++ act_at t i s m ∷ acts t (suc i) z (map (move_of t) ms)) (sym (after-accepted ceiling t (suc i) s m s' q))
    go ih (refused r) q k = absurd (let z : ◌≡◌ {A = ℕ} 0 1 = cc in omega arith)

-- ---- the loop

pub record Recording (T index l : List ℕ) (s₀ : State) (ceiling : ℕ) (before : List ℕ) (i : ℕ) (begun origins members ended : List ℕ) (s : State) : Type 0 where
  pub asked : Recordable T index l s₀ ceiling
  pub room : RecordRoom l origins members ended begun
  made : List Act
  pub folded : Folded (add_act (table_of T)) add_none ceiling (table_of T) l s₀ [] i s made
  pub held : Held (sizes_of T) (state_in s)
  pub tracked : Tracked s₀.next begun i (state_in s)
  each : All (Done (table_of T) l origins members i) made
  ends : (p : ℕ) → p < 1024 → get_or ended p 0 ≡ end_after p (get_or before p 0) made

pub recording-start : {T index l : List ℕ} {s : State} {ceiling : ℕ} {before origins members begun : List ℕ} → Recordable T index l s ceiling
    → RecordRoom l origins members before begun → Recording T index l s ceiling before 0 begun origins members before s
unfolding state_in
recording-start {T} {index} {l} {s} {ceiling} {before} a r = record {
  asked = a;
  room = r;
  made = [];
  folded = folded_start (add_act (table_of T)) add_none ceiling (table_of T) l [] a.workable;
  held = a.held;
  tracked = tracked-start (state_in s) a.held.sound a.closed r.begun;
  each = tt;
  ends = λ p q. refl;
}

module _ {T index l : List ℕ} {s₀ : State} {ceiling : ℕ} {before : List ℕ} {i : ℕ} {begun origins members ended : List ℕ} {s : State}
    (h : Recording T index l s₀ ceiling before i begun origins members ended s)
  where
    pub recording-lent : Lent s.owners s.items s.origins s.len
    recording-lent = let w = h.folded.reached.workable in record { arrays = w.arrays; fits = omega (arith, w.bounds.fits, w.limit) }

    pub recording-place : i < move_count l → i < 1024
    recording-place more = omega (arith, h.asked.prepared.log.few)

    -- the id of a begin has a place among those begun
    pub recording-id : i < move_count l → (s₀.next ≤ s.next) × (s.next < s₀.next + 1024)
    unfolding state_in
    recording-id more = (h.tracked.low, omega (arith, h.tracked.high, recording-place more))

    -- no move is left
    pub recording-end : move_count l ≤ i → {ran : Ran} → ran.verdict ≡ Allowed → ran.place ≡ i
        → RecordedAs ran ceiling (table_of T) l s₀ s origins members before ended
    recording-end q said at =
        let r = reached-end h.folded.reached q said at in
        let all : h.made ≡ acts (table_of T) 0 (state_in s₀) (map (move_of (table_of T)) (moves_of l)) =
        folded-end (add_act (table_of T)) add_none ceiling (table_of T) h.folded q
        ∙ acts-fold ceiling (table_of T) 0 (state_in s₀) (moves_of l) (state_in s) [] (sym (rw said at r.value)) in
        record {
          ran = r;
          recordings = λ v. rw (← all) (record { each = All-map (λ a d. d.recorded) h.made h.each; ends = h.ends });
        }

    -- a move is noted, decided and made
    module _ (more : i < move_count l) {head : ℕ} {picks : List ℕ} (words : head ∷ picks ≡ move_at l i) (four : length picks ≡ 4)
        {origins' members₁ ended' : List ℕ} (noted : MoveNoted s.owners s.items s.origins s.len begun s₀.next head picks i origins
        members ended origins' members₁ ended')
        {x : Made} {s' : State} (step : MadeAs x ceiling (table_of T) (i + 1) (head ∷ picks) s s')
        {begun' members' : List ℕ} (marked : (begun' ≡ if_grown s.next s'.next begun (s.next - s₀.next) (first_product i))
        × (members' ≡ if_grown s.next s'.next members₁ i (first_product i)))
      where
        place-fits : i < 1024
        place-fits = recording-place more

        of-log : MadeAs x ceiling (table_of T) (i + 1) (move_at l i) s s'
        of-log = rw (← words) step

        members-are : members' ≡ cond (eqb s.next s'.next) (set members i (mark_by begun s₀.next (concerned_by s.owners head picks)))
            (set (set members i (mark_by begun s₀.next (concerned_by s.owners head picks))) i (first_product i))
        members-are = marked.1 ∙ rw noted.member

        row_room : 4 * i + 4 ≤ length origins
        row_room = omega (arith, h.room.origins)

        pub recording-room : RecordRoom l origins' members' ended' begun'
        recording-room = record {
          origins = omega (arith, noted.picked.size, h.room.origins);
          members = ap length members-are ∙ grown-size members i _ _ (eqb s.next s'.next) ∙ h.room.members;
          ends = noted.ends.size;
          begun = ap length marked.0 ∙ grown-length begun (s.next - s₀.next) (first_product i) (eqb s.next s'.next) ∙ h.room.begun;
        }

        pub recording-refused : {q : Refusal} → x.verdict ≡ Denied q → {ran : Ran} → ran.verdict ≡ x.verdict → ran.place ≡ i
            → RecordedAs ran ceiling (table_of T) l s₀ s' origins' members' before ended'
        recording-refused {q} e said at = record {
          ran = reached-refused h.folded.reached more of-log e said at;
          recordings = λ a. absurd (denied≢allowed (sym e ∙ sym said ∙ a));
        }

        module _ (ok : x.verdict ≡ Allowed) where
          stepped : step_words ceiling (table_of T) (i + 1) (state_in s) (head ∷ picks) ≡ to (state_in s')
          stepped = rw ok at step.step

          passed : AcceptedMove ceiling (table_of T) (suc i) (state_in s) (head ∷ picks) (state_in s')
          passed = accepted-move ceiling (table_of T) (suc i) (state_in s) (head ∷ picks) (state_in s') (rw (add-one i) at stepped)

          legal : Legal (table_of T) (state_in s) head picks
          legal = record {
            form = passed.form;
            allows = passed.allows;
            table = table-right T h.asked.prepared.indexed.table;
            sound = rw (sizes-table_of T) h.held.sound;
            quiet = h.asked.quiet;
          }

          act : Act
          act = act_at (table_of T) i (state_in s) (head ∷ picks)

          act-picks : act.picks ≡ map origin_of (words_at s.origins (take (picks_used (table_of T) head) picks))
          unfolding act
          act-picks = picks-origins s legal

          act-count : length act.picks ≡ picks_used (table_of T) head
          act-count =
              let u = picks_used (table_of T) head in
              ap length act-picks ∙ length-map (words_at s.origins (take u picks)) origin_of
              ∙ length-map (take u picks) (λ p. get_or s.origins p 0) ∙ length-take-le u picks (omega (arith, used-few legal))

          act-member : OneOf (get_or members' i 0) act.members
          unfolding act state_in
          act-member =
              let next : (applied (table_of T) (suc i) (state_in s) (move_of (table_of T) (head ∷ picks))).next ≡ s'.next =
              ap (λ (x : semantics.State). x.next) passed.result in
              rw (
                members-are,
                grown-here members i (mark_by begun s₀.next (concerned_by s.owners head picks)) (first_product i)
                    (eqb s.next s'.next) (omega (arith, h.room.members, place-fits)),
              )
              (rw next at (member-noted s legal h.tracked))

          act-done : Done (table_of T) l origins' members' (i + 1) act
          unfolding act
          act-done = record {
            past = omega arith;
            few = omega (arith, act-count, used-few legal);
            recorded = record {
              move = ap (move_of (table_of T)) words;
              picks = act-picks ∙ ap (map origin_of) (sym (ap (λ (n : ℕ). take n (drop (4 * i) origins')) act-count
                  ∙ picks-here s.origins picks i noted.picked row_room four (picks_used (table_of T) head) (used-few legal)));
              some = act-member.some;
              none = act-member.none;
            };
          }

          act-ends : (p : ℕ) → p < 1024 → get_or ended' p 0 ≡ end_after p (get_or before p 0) (h.made ++ act ∷ [])
          unfolding act state_in
          act-ends p q =
              noted.ends.each p q
              ∙ rw (end_after-more p (get_or before p 0) h.made act, ends-marks (table_of T) i (state_in s) head picks passed.form p, h.ends p q)

          next-folded : Folded (add_act (table_of T)) add_none ceiling (table_of T) l s₀ [] (i + 1) s' (h.made ++ act ∷ [])
          unfolding act
          next-folded = rw words (folded-made (add_act (table_of T)) add_none ceiling (table_of T) h.folded more of-log ok)

          pub recording-next : Recording T index l s₀ ceiling before (i + 1) begun' origins' members' ended' s'
          unfolding state_in
          recording-next = record {
            asked = h.asked;
            room = recording-room;
            made = h.made ++ act ∷ [];
            folded = next-folded;
            held = step-holds T h.asked.prepared.indexed.table ceiling (i + 1) (state_in s) (head ∷ picks) (state_in s')
                h.folded.reached.workable.limit h.held stepped;
            tracked = subst (λ (x : semantics.State). Tracked s₀.next begun' (i + 1) x) passed.result
                (rw (marked.0, ← ap (λ (x : semantics.State). x.next) passed.result)
                (tracked-next h.tracked place-fits (table_of T) (table-shaped (table_of T) legal.table legal.quiet)
                (move_of (table_of T) (head ∷ picks))));
            each = All-append _ h.made (act ∷ [])
                (All-map (done-kept (table_of T) l origins origins' members members' i (picks-before s.origins picks i noted.picked row_room four)
                (λ p q. ap (λ (xs : List ℕ). get_or xs p 0) members-are ∙ grown-other members i _ _ (eqb s.next s'.next) p (λ z. omega arith)))
                h.made h.each) (act-done, tt);
            ends = act-ends;
          }
