-- A well-formed state as facts on its entries, both ways.
use Rattle.std.specs.Prelude.{ℕ, ◌≤◌, ◌<◌, Bool, true, ◌&&◌, List, ◌≡◌, leb}
use Rattle.std.proofs.Math.Logic.{⊎_elim}
use Rattle.std.proofs.Common.{arith}
use Rattle.std.proofs.Math.Dec.{ltb, eqb}
use borrow.Author.Tests.{leb-true, le-leb, ltb-true, lt-ltb, eqb-true, eqb-false, eq-eqb}
use Rattle.lists.specs.Lists.{all, any, distinct}
use Rattle.lists.specs.Tests.{or-right-true}
use Rattle.lists.specs.Choices.{by_bool, and_intro, and_left, and_right, and-three, and-six, or_cases, given_holds, given-intro}
use Rattle.lists.specs.Members.{Among, all-each, all-intro, any_some, any-intro}
use Rattle.semantics.specs.Table.{port_count}
use Rattle.semantics.specs.State.{Entry, State, is_message, is_compensation, is_abort_mark, is_member_mark, owned, global_ok, message_ok, compensation_ok}
use Rattle.semantics.specs.State.{abort_mark_ok, member_mark_ok, entry_ok, mark_values, is_own_mark, owner_ok, entries_ok}
use Rattle.semantics.specs.declared.Sizes.{Sizes}

pub record MemberRight (next : ℕ) (e : Entry) : Type 0 where
  pub port-zero : e.port ≡ 0
  pub owner-low : 1 ≤ e.owner
  pub owner-le : e.owner ≤ e.value
  pub value-lt : e.value < next

pub record EntryRight (z : Sizes) (next : ℕ) (e : Entry) : Type 0 where
  pub kind-le : e.kind ≤ 3
  pub global : e.owner ≡ 0 → (e.kind ≡ 0) × (e.port < z.globals)
  pub message : e.kind ≡ 0 → e.port < port_count z
  pub compensation : e.kind ≡ 1 → e.port < z.globals
  pub abort-mark : e.kind ≡ 2 → (e.port ≡ 0) × (e.value ≡ 0)
  pub member-mark : e.kind ≡ 3 → MemberRight next e

-- an own mark of t
abbrev pub HasOwnMark : List Entry → ℕ → Type 0
HasOwnMark es t = (m : Entry) × Among m es × (m.kind ≡ 3) × (m.owner ≡ t) × (m.value ≡ t)

pub record StateRight (z : Sizes) (s : State) : Type 0 where
  pub each : (e : Entry) → Among e s.entries → EntryRight z s.next e
  pub marks : distinct (mark_values s.entries) ≡ true
  pub own : (e : Entry) → Among e s.entries → (e.owner ≡ 0 → ⊥) → HasOwnMark s.entries e.owner

-- ---- from the tests, and back

module _ (z : Sizes) (next : ℕ) (e : Entry) where
  abbrev mark_tests : Bool
  mark_tests = eqb e.port 0 && leb 1 e.owner && leb e.owner e.value && ltb e.value next

  member_right : mark_tests ≡ true → MemberRight next e
  member_right h =
      let (a, b, c) = and-three (eqb e.port 0 && leb 1 e.owner) (leb e.owner e.value) (ltb e.value next) h in
      record {
        port-zero = eqb-true e.port 0 (and_left (eqb e.port 0) (leb 1 e.owner) a);
        owner-low = leb-true 1 e.owner (and_right (eqb e.port 0) (leb 1 e.owner) a);
        owner-le = leb-true e.owner e.value b;
        value-lt = ltb-true e.value next c;
      }

  pub entry-right : entry_ok z next e ≡ true → EntryRight z next e
  unfolding entry_ok
  entry-right h =
      let (kind, global, message, compensation, abort, member) =
      and-six (leb e.kind 3) (global_ok z e) (message_ok z e) (compensation_ok z e) (abort_mark_ok e) (member_mark_ok next e) h in
      record {
        kind-le = leb-true e.kind 3 kind;
        global = λ o.
            let k = given_holds (owned 0 e) (is_message e && ltb e.port z.globals) global (eq-eqb e.owner 0 o) in (
              eqb-true e.kind 0 (and_left (is_message e) (ltb e.port z.globals) k),
              ltb-true e.port z.globals
                  (and_right (is_message e) (ltb e.port z.globals) k),
            );
        message = λ k. ltb-true e.port (port_count z) (given_holds (is_message e) (ltb e.port (port_count z)) message (eq-eqb e.kind 0 k));
        compensation = λ k. ltb-true e.port z.globals (given_holds (is_compensation e) (ltb e.port z.globals) compensation (eq-eqb e.kind 1 k));
        abort-mark = λ k.
            let q = given_holds (is_abort_mark e) (eqb e.port 0 && eqb e.value 0) abort (eq-eqb e.kind 2 k) in
            (eqb-true e.port 0 (and_left (eqb e.port 0) (eqb e.value 0) q), eqb-true e.value 0 (and_right (eqb e.port 0) (eqb e.value 0) q));
        member-mark = λ k. member_right (given_holds (is_member_mark e) mark_tests member (eq-eqb e.kind 3 k));
      }

  pub entry-tests : EntryRight z next e → entry_ok z next e ≡ true
  unfolding entry_ok
  entry-tests r = and_intro (and_intro (and_intro (and_intro (and_intro
      (le-leb e.kind 3 r.kind-le)
      (given-intro (owned 0 e) (is_message e && ltb e.port z.globals)
      (λ o. let q = r.global (eqb-true e.owner 0 o) in and_intro (eq-eqb e.kind 0 q.0) (lt-ltb e.port z.globals q.1))))
      (given-intro (is_message e) (ltb e.port (port_count z)) (λ k. lt-ltb e.port (port_count z) (r.message (eqb-true e.kind 0 k)))))
      (given-intro (is_compensation e) (ltb e.port z.globals) (λ k. lt-ltb e.port z.globals (r.compensation (eqb-true e.kind 1 k)))))
      (given-intro (is_abort_mark e) (eqb e.port 0 && eqb e.value 0)
      (λ k. let q = r.abort-mark (eqb-true e.kind 2 k) in and_intro (eq-eqb e.port 0 q.0) (eq-eqb e.value 0 q.1))))
      (given-intro (is_member_mark e) mark_tests
      (λ k. let q = r.member-mark (eqb-true e.kind 3 k) in
      and_intro (and_intro (and_intro (eq-eqb e.port 0 q.port-zero) (le-leb 1 e.owner q.owner-low))
      (le-leb e.owner e.value q.owner-le)) (lt-ltb e.value next q.value-lt)))

module _ (es : List Entry) where
  own-mark : (t : ℕ) → any (is_own_mark t) es ≡ true → HasOwnMark es t
  own-mark t h =
      let (m, k, q) = any_some (is_own_mark t) es h in
      let (a, b, c) = and-three (is_member_mark m) (eqb m.value t) (owned t m) q in
      (m, k, eqb-true m.kind 3 a, eqb-true m.owner t c, eqb-true m.value t b)

  own-test : (t : ℕ) → HasOwnMark es t → any (is_own_mark t) es ≡ true
  own-test t (m, k, a, b, c) = any-intro (is_own_mark t) es m k (and_intro (and_intro (eq-eqb m.kind 3 a) (eq-eqb m.value t c)) (eq-eqb m.owner t b))

module _ (z : Sizes) (s : State) where
  pub state-right : entries_ok z s ≡ true → StateRight z s
  unfolding entries_ok
  state-right h =
      let (each, marks, own) = and-three (all (entry_ok z s.next) s.entries) (distinct (mark_values s.entries))
      (all (owner_ok s.entries) s.entries) h in
      record {
        each = λ e m. entry-right z s.next e (all-each (entry_ok z s.next) s.entries each e m);
        marks = marks;
        own = λ e m n. ⊎_elim (λ o. absurd (n (eqb-true e.owner 0 o))) (own-mark s.entries e.owner)
            (or_cases (owned 0 e) (any (is_own_mark e.owner) s.entries) (all-each (owner_ok s.entries) s.entries own e m));
      }

  pub state-tests : StateRight z s → entries_ok z s ≡ true
  unfolding entries_ok
  state-tests r = and_intro (and_intro
      (all-intro (entry_ok z s.next) s.entries (λ e m. entry-tests z s.next e (r.each e m)))
      r.marks)
      (all-intro (owner_ok s.entries) s.entries (λ e m. by_bool (owned 0 e) (λ o. rw o)
      (λ o. or-right-true (owned 0 e) (own-test s.entries e.owner (r.own e m (eqb-false e.owner 0 o))))))

-- ---- the four sorts of entry

module _ (z : Sizes) (next : ℕ) (e : Entry) where
  pub message-entry : e.kind ≡ 0 → e.port < port_count z → (e.owner ≡ 0 → e.port < z.globals) → EntryRight z next e
  message-entry k p g = record {
    kind-le = omega arith;
    global = λ o. (k, g o);
    message = λ q. p;
    compensation = λ q. absurd (omega arith);
    abort-mark = λ q. absurd (omega arith);
    member-mark = λ q. absurd (omega arith);
  }

  pub compensation-entry : e.kind ≡ 1 → 1 ≤ e.owner → e.port < z.globals → EntryRight z next e
  compensation-entry k o p = record {
    kind-le = omega arith;
    global = λ q. absurd (omega arith);
    message = λ q. absurd (omega arith);
    compensation = λ q. p;
    abort-mark = λ q. absurd (omega arith);
    member-mark = λ q. absurd (omega arith);
  }

  pub abort-entry : e.kind ≡ 2 → 1 ≤ e.owner → e.port ≡ 0 → e.value ≡ 0 → EntryRight z next e
  abort-entry k o p v = record {
    kind-le = omega arith;
    global = λ q. absurd (omega arith);
    message = λ q. absurd (omega arith);
    compensation = λ q. absurd (omega arith);
    abort-mark = λ q. (p, v);
    member-mark = λ q. absurd (omega arith);
  }

  pub member-entry : e.kind ≡ 3 → MemberRight next e → EntryRight z next e
  member-entry k r = record {
    kind-le = omega arith;
    global = λ q. absurd (let l = r.owner-low in omega arith);
    message = λ q. absurd (omega arith);
    compensation = λ q. absurd (omega arith);
    abort-mark = λ q. absurd (omega arith);
    member-mark = λ q. r;
  }

-- ---- the invariants of a log

-- a well-formed state
pub record Sound (z : Sizes) (s : State) : Type 0 where
  pub right : StateRight z s
  pub next_low : 1 ≤ s.next
  pub next-high : s.next ≤ 65536

-- values fit their field
abbrev pub Small : List Entry → Type 0
Small es = (e : Entry) → Among e es → e.value < 65536
