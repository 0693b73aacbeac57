-- The reactions by one rule that are open in an accepted state: the choices by the keys of its entries.
use Rattle.std.specs.Prelude.{ℕ, ◌+◌, ◌*◌, ◌%◌, ◌≤◌, ◌<◌, Bool, true, false, ◌&&◌, cond, List, [], ◌∷◌, map, ◌≡◌, refl, leb, ltb, eqb, length, get_or}
use Rattle.std.proofs.Math.Bool.{and-true, and-false, and_assoc}
use Rattle.std.proofs.Common.{inl, sym, ap, ◌∙◌, arith, leb-true, le-leb, ltb-false, eqb-true, eq-eqb, ne_eqb}
use Rattle.std.proofs.lemmas.Bool.{eqb-false}
use Rattle.std.proofs.lemmas.List.{length-map}
use Rattle.lists.specs.Lists.{given, all, keep, distinct, least, tuples}
use Rattle.lists.specs.Tests.{and-after, and-swap, and-turn, same_test}
use Rattle.lists.specs.Choices.{by_bool, cond-false, and_left, and_right, and-three}
use Rattle.lists.specs.Each.{All, All-map, keep-cond}
use Rattle.lists.specs.Members.{Among, among-map, among-keep, get_or-among}
use Rattle.lists.specs.Splits.{All-every}
use Rattle.lists.specs.Smallest.{all-least}
use Rattle.lists.specs.Parts.{keep-map}
use Rattle.lists.specs.Counting.{length-parts, all-and}
use Rattle.lists.specs.Beside.{all_beside, beside_same}
use Rattle.lists.specs.Choosing.{group_base, choices_from, choices_by_group}
use Rattle.lists.specs.KeyedTuples.{tuples-same, have_keys, keep-keys, have_group, keep-group}
use Rattle.semantics.specs.Table.{Table, Rule, sizes_of, port_count, class_of, table_of, rule_at, has_role, consumed}
use Rattle.semantics.specs.State.{Entry, State, is_message, owned}
use Rattle.semantics.specs.Move.{unless, both, first_fault, react, is_zero, nothing, entry_at, picked, on_ports, picks_ok, owners_at, owners_fit, takes_part, has_id}
use Rattle.semantics.specs.Move.{reacted, allowed, applied, move_verdict}
use Rattle.semantics.specs.Enabled.{reactions_of, is_allowed}
use Rattle.semantics.specs.Answers.{table_verdict}
use Rattle.semantics.specs.declared.Sizes.{Sizes}
use Rattle.semantics.specs.declared.Refusal.TheVariants.{WrongPick, WrongOwner, NoMoreIds, TooManyEntries, TransactionAborting}
use Rattle.semantics.specs.declared.Verdict.TheVariants.{Allowed}
use Rattle.wellformed.specs.Tables.{well-formed}
use Rattle.wellformed.specs.Rules.{RuleRight, rules-right}
use Rattle.wellformed.specs.Entries.{EntryRight, StateRight}
use Rattle.wellformed.specs.Picks.{ReactGiven, left-length, picks-length}
use Rattle.wellformed.specs.Length.{length-reacted}
use Rattle.enabled.specs.Keys.{takeable, takeable_on, Keyed, plain-key, local-key, group-key}

-- ---- the verdict

-- 12, whatever is picked: the consumed entries go, and one comes for each of the other atoms
abbrev pub has_room : ℕ → Rule → State → Bool
has_room ceiling R S = leb (length S.entries + length R.atoms) (ceiling + 2 * length (consumed R))

room-same : (ceiling : ℕ) {R : Rule} {S : State} {ps : List ℕ} → ReactGiven R S ps → leb (length (reacted R 0 S ps).entries) ceiling ≡ has_room ceiling R S
room-same ceiling {R} {S} {ps} g =
    let left = length (reacted R 0 S ps).entries in
    let before = length S.entries + length R.atoms in
    let most = ceiling + 2 * length (consumed R) in
    let a = length-reacted R 0 S ps in
    let b = left-length g in
    let c = picks-length g in
    let d = length-parts (has_role 0) R.atoms in
    let e = length-map (keep (has_role 0) R.atoms) (λ a. a.port) in
    same_test (leb left ceiling) (leb before most)
    (λ h. let l = leb-true left ceiling h in le-leb before most (omega arith))
    (λ h. let l = leb-true before most h in le-leb left ceiling (omega arith))

five-tests : (a b p c d : Bool) {e : Bool} → (a ≡ true → b ≡ true → p ≡ true → c ≡ true → d ≡ e)
    → is_allowed
    (both (first_fault (unless a WrongPick ∷ unless b WrongOwner ∷ unless p TransactionAborting ∷ unless c NoMoreIds ∷ [])) (unless d TooManyEntries))
    ≡ a && (b && p) && (c && e)
five-tests false b p c d f = refl
five-tests true false p c d f = refl
five-tests true true false c d f = refl
five-tests true true true false d f = refl
five-tests true true true true true f = f refl refl refl refl
five-tests true true true true false f = f refl refl refl refl

-- 8 and 18: owners from which a rule of class c may consume
abbrev may_consume : ℕ → State → List ℕ → Bool
may_consume c S os = owners_fit c os && all (takes_part S) os

-- 7, 8 and 18
abbrev picks_fit : Rule → State → List ℕ → Bool
picks_fit R S ps = picks_ok R S ps && may_consume R.class S (owners_at S ps)

-- only they look at the picks
verdict-is : (ceiling : ℕ) (T : Table) (S : State) (r : ℕ) (ps : List ℕ)
    → is_allowed (move_verdict ceiling T S (react r ps)) ≡ picks_fit (rule_at T r) S ps && (has_id (rule_at T r) S && has_room ceiling (rule_at T r) S)
unfolding move_verdict allowed applied
verdict-is ceiling T S r ps =
    let R = rule_at T r in
    five-tests (picks_ok R S ps) (owners_fit R.class (owners_at S ps)) (all (takes_part S) (owners_at S ps)) (has_id R S)
    (leb (length (reacted R 0 S ps).entries) ceiling)
    (λ a b p c. room-same ceiling (record {
      different = and_left (distinct ps) (on_ports (consumed R) (picked S ps)) a;
      ports = and_right (distinct ps) (on_ports (consumed R) (picked S ps)) a;
      owners = b;
      part = p;
      ids = c;
    }))

-- ---- messages by port and owner

-- what a rule of class c asks of an owner by itself
abbrev owner_wanted : ℕ → ℕ → Bool
owner_wanted c = cond (eqb c 0) is_zero (ltb 0)

abbrev is_wanted : (ℕ → Bool) → ℕ → Entry → Bool
is_wanted ok t e = is_message e && eqb e.port t && ok e.owner

ports-owners : (ok : ℕ → Bool) (S : State) (ts ps : List ℕ)
    → on_ports ts (picked S ps) && all ok (owners_at S ps) ≡ all_beside (λ t p. is_wanted ok t (entry_at S.entries p)) ts ps
ports-owners ok S [] [] = refl
ports-owners ok S [] (p ∷ ps) = refl
ports-owners ok S (t ∷ ts) [] = refl
ports-owners ok S (t ∷ ts) (p ∷ ps) =
    let e = entry_at S.entries p in
    rw (← (ports-owners ok S ts ps)) (and-turn (is_message e && eqb e.port t) (on_ports ts (picked S ps)) (ok e.owner) (all ok (owners_at S ps)))

-- an owner that a rule of class c may consume from: it is what the class wants, and takes part
abbrev owner_may : (ℕ → Bool) → ℕ → ℕ → Bool
owner_may part c o = owner_wanted c o && part o

module _ {z : Sizes} {next : ℕ} {e : Entry} (right : EntryRight z next e) (part : ℕ → Bool) where
  -- what may be consumed has an owner as the class of its port wants it
  takeable-owner : takeable z part e ≡ is_message e && owner_may part (class_of z e.port) e.owner
  takeable-owner = ap (λ (b : Bool). b && part e.owner) (go (ltb e.port z.globals) refl (ltb e.port (z.globals + z.locals)))
      ∙ and_assoc (is_message e) (owner_wanted (class_of z e.port) e.owner) (part e.owner)
    where
      inner : ltb e.port z.globals ≡ false → ltb 0 e.owner ≡ true
      inner q = by_bool (ltb 0 e.owner) (λ h. h) (λ h.
          let l = ltb-false 0 e.owner h in
          let k = (right.global (omega arith)).1 in
          let m = ltb-false e.port z.globals q in
          absurd (omega arith))

      go : (b : Bool) → ltb e.port z.globals ≡ b → (c : Bool)
          → is_message e && given b (owned 0 e) ≡ is_message e && owner_wanted (cond b 0 (cond c 1 2)) e.owner
      go true q c = refl
      go false q true = rw (inner q)
      go false q false = rw (inner q)

  takeable-on : (t c : ℕ) → class_of z t ≡ c → takeable_on z part t e ≡ is_wanted (owner_may part c) t e
  takeable-on t c h = go (eqb e.port t) (λ q. rw (← h, ← (eqb-true e.port t q)) takeable-owner)
    where
      go : (b : Bool) → (b ≡ true → takeable z part e ≡ is_message e && owner_may part c e.owner)
          → takeable z part e && b ≡ is_message e && b && owner_may part c e.owner
      go true f = rw (and-true (takeable z part e), and-true (is_message e)) (f refl)
      go false f = rw (and-false (takeable z part e), and-false (is_message e))

-- ---- the ports of a rule

-- a port of class c
abbrev pub OfClass : Sizes → ℕ → ℕ → Type 0
OfClass z c t = (t < 256) × (class_of z t ≡ c)

consumed-class : {z : Sizes} {R : Rule} → port_count z ≤ 256 → RuleRight z R → All (OfClass z R.class) (consumed R)
consumed-class {z} {R} few rule = All-every (OfClass z R.class) (consumed R) (λ t m.
    let (a, k, e) = among-map (λ a. a.port) (keep (has_role 0) R.atoms) t m in
    let (k, h) = among-keep (has_role 0) R.atoms a k in
    let l = (rule.each a k).port-lt in
    (omega arith, ap (class_of z) e ∙ (rule.each a k).consume-class (eqb-true a.role 0 h)))

-- a rule of an accepted table consumes from ports of its class only
pub consumed-ports : (t : List ℕ) → table_verdict t ≡ Allowed → (r : ℕ) → r < (sizes_of t).rules
    → All (OfClass (sizes_of t) (rule_at (table_of t) r).class) (consumed (rule_at (table_of t) r))
consumed-ports t h r l = consumed-class (well-formed t h).sizes.ports (rules-right t h r l)

-- and no port is above 255
pub consumed-below : (t : List ℕ) → table_verdict t ≡ Allowed → (r : ℕ) → r < (sizes_of t).rules → All (λ p. p < 256) (consumed (rule_at (table_of t) r))
consumed-below t h r l = All-map {Q = λ p. p < 256} (λ p k. k.0) (consumed (rule_at (table_of t) r)) (consumed-ports t h r l)

-- ---- choices by keys

-- in a local rule of one group, else of any
abbrev pub choices_of : Rule → List ℕ → List (List ℕ)
choices_of R ks = cond (eqb R.class 1) (choices_by_group ks (consumed R)) (choices_from ks [] (consumed R))

owners-each : (S : State) (c : ℕ) → (c ≡ 1 → ⊥) → (os : List ℕ) → all (owner_may (takes_part S) c) os ≡ may_consume c S os
owners-each S c n os = all-and (owner_wanted c) (takes_part S) os ∙ ap (λ (b : Bool). b && all (takes_part S) os) wanted
  where
    wanted : all (owner_wanted c) os ≡ owners_fit c os
    wanted = by_bool (eqb c 0) (λ h. rw h) (λ h. rw (h, ne_eqb c 1 n))

-- .. and of a local rule, with any one of them for all
owners-one : (S : State) (os : List ℕ) (one : ℕ) → Among one os → all (λ o. owner_may (takes_part S) 1 o && eqb o one) os ≡ may_consume 1 S os
owners-one S os one m =
    all-least (owner_may (takes_part S) 1) os one m
    ∙ (λ k. all (λ o. and-swap (ltb 0 o) (takes_part S o) (eqb o (least os)) k) os)
    ∙ all-and (λ o. ltb 0 o && eqb o (least os)) (takes_part S) os

module _ {z : Sizes} {S : State} {ks : List ℕ} (few : port_count z ≤ 256) (state : StateRight z S) (keyed : Keyed z (takes_part S) S.entries ks) where
  abbrev n : ℕ
  n = length S.entries

  abbrev at : ℕ → Entry
  at p = entry_at S.entries p

  at_right : (p : ℕ) → p < n → EntryRight z S.next (at p)
  at_right p h = state.each (at p) (get_or-among nothing S.entries p h)

  small : (p : ℕ) → p < n → takeable z (takes_part S) (at p) ≡ true → (at p).port < 256
  small p h q =
      let (k, _, _) = and-three (is_message (at p)) (given (ltb (at p).port z.globals) (owned 0 (at p))) (takes_part S (at p).owner) q in
      let l = (at_right p h).message (eqb-true (at p).kind 0 k) in
      omega arith

  -- ports and owners of the picks of a rule that is not local
  plain_fits : (c : ℕ) → (c ≡ 1 → ⊥) → (ts ps : List ℕ) → All (OfClass z c) ts → All (λ p. p < n) ps
      → on_ports ts (picked S ps) && may_consume c S (owners_at S ps) ≡ have_keys ks ts ps
  plain_fits c other ts ps h k =
      rw (← (owners-each S c other (owners_at S ps))) (ports-owners (owner_may (takes_part S) c) S ts ps)
      ∙ beside_same (λ t p. is_wanted (owner_may (takes_part S) c) t (at p)) (λ t p. eqb (get_or ks p 0) t)
      (λ t p (l, e) m. sym (plain-key keyed t l (λ q. other (sym e ∙ q)) p m ∙ takeable-on (at_right p m) (takes_part S) t c e)) ts ps h k

  -- and of one that is
  group-fits : (ts ps : List ℕ) → All (OfClass z 1) ts → All (λ p. p < n) ps
      → on_ports ts (picked S ps) && may_consume 1 S (owners_at S ps) ≡ have_group ks ts ps
  group-fits [] [] h k = refl
  group-fits [] (p ∷ ps) h k = refl
  group-fits (t ∷ ts) [] h k = refl
  group-fits (t ∷ ts) (p ∷ ps) ((l, c), h) (k, m) =
      rw (← (owners-one S (owners_at S (p ∷ ps)) (at p).owner (inl refl)), ports-owners same S (t ∷ ts) (p ∷ ps), ← first)
      (and-after (eqb (get_or ks p 0 % 512) t) (λ w. beside_same (λ u q. is_wanted same u (at q)) (λ u q. eqb (get_or ks q 0) (u + group_base ks t p))
      (λ u q (i, d) j. sym (other (sym on ∙ w) u i d q j)) ts ps h m))
    where
      same : ℕ → Bool
      same o = owner_may (takes_part S) 1 o && eqb o (at p).owner

      on : eqb (get_or ks p 0 % 512) t ≡ takeable_on z (takes_part S) t (at p)
      on = local-key keyed small t l c p k

      first : eqb (get_or ks p 0 % 512) t ≡ is_wanted same t (at p)
      first = on ∙ takeable-on (at_right p k) (takes_part S) t 1 c
          ∙ rw (eq-eqb (at p).owner (at p).owner refl, and-true (owner_may (takes_part S) 1 (at p).owner))

      other : takeable_on z (takes_part S) t (at p) ≡ true → (u : ℕ) → u < 256 → class_of z u ≡ 1 → (q : ℕ) → q < n
          → eqb (get_or ks q 0) (u + group_base ks t p) ≡ is_wanted same u (at q)
      other w u i d q j =
          group-key keyed small t u l i c d p q k j w
          ∙ rw (takeable-on (at_right q j) (takes_part S) u 1 d)
          (and_assoc (is_message (at q) && eqb (at q).port u) (owner_may (takes_part S) 1 (at q).owner) (eqb (at q).owner (at p).owner))

  abbrev fit : ℕ → List ℕ → List ℕ → Bool
  fit c ts ps = distinct ps && on_ports ts (picked S ps) && may_consume c S (owners_at S ps)

  -- choices that fit by a test of ports and owners
  fit_same : (c : ℕ) (ts : List ℕ) (test : List ℕ → Bool)
      → ((ps : List ℕ) → All (λ p. p < n) ps → on_ports ts (picked S ps) && may_consume c S (owners_at S ps) ≡ test ps)
      → keep (fit c ts) (tuples n (length ts)) ≡ keep (λ ps. distinct ps && test ps) (tuples (length ks) (length ts))
  fit_same c ts test f = rw keyed.size (tuples-same (fit c ts) (λ ps. distinct ps && test ps) n (length ts)
      (λ ps (e, k). and_assoc (distinct ps) (on_ports ts (picked S ps)) (may_consume c S (owners_at S ps)) ∙ ap (λ (b : Bool). distinct ps && b) (f ps k)))

  choices-are : (c : ℕ) (ts : List ℕ) → All (OfClass z c) ts
      → keep (fit c ts) (tuples n (length ts)) ≡ cond (eqb c 1) (choices_by_group ks ts) (choices_from ks [] ts)
  choices-are c ts h = by_bool (eqb c 1)
      (λ q. let e = eqb-true c 1 q in rw e (fit_same 1 ts (have_group ks ts) (λ ps. group-fits ts ps (rw e at h)) ∙ keep-group ks ts))
      (λ q. fit_same c ts (have_keys ks ts) (λ ps. plain_fits c (eqb-false c 1 q) ts ps h) ∙ keep-keys ks ts
      ∙ sym (cond-false (choices_by_group ks ts) (choices_from ks [] ts) q))

-- ---- the open reactions by a rule

pub reactions-open : (t : List ℕ) → table_verdict t ≡ Allowed → (S : State) → StateRight (sizes_of t) S → (r : ℕ) → r < (sizes_of t).rules → (ceiling : ℕ)
    {ks : List ℕ} → Keyed (sizes_of t) (takes_part S) S.entries ks
    → keep (λ m. is_allowed (move_verdict ceiling (table_of t) S m)) (reactions_of (table_of t) (length S.entries) r)
    ≡ map (react r) (cond (has_id (rule_at (table_of t) r) S && has_room ceiling (rule_at (table_of t) r) S) (choices_of (rule_at (table_of t) r) ks) [])
reactions-open t table S right r l ceiling {ks} keyed =
    let T = table_of t in
    let R = rule_at T r in
    let all-picks = tuples (length S.entries) (length (consumed R)) in
    let may = has_id R S && has_room ceiling R S in
    keep-map (react r) (λ m. is_allowed (move_verdict ceiling T S m)) all-picks
    ∙ ap (map (react r)) (
    tuples-same (λ ps. is_allowed (move_verdict ceiling T S (react r ps))) (λ ps. picks_fit R S ps && may) (length S.entries) (length (consumed R))
    (λ ps h. verdict-is ceiling T S r ps)
    ∙ keep-cond (picks_fit R S) may all-picks
    ∙ ap (λ (l : List (List ℕ)). cond may l [])
    (choices-are (well-formed t table).sizes.ports right keyed R.class (consumed R) (consumed-ports t table r l)))
