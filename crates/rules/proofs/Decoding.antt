-- A rule decoded from its words.
use Prim.Native.Nat.{ℕ, ◌+◌, ◌<◌, ◌≤◌}
use mathlib.Core.Bool.{Bool, false, ◌||◌}
use mathlib.Core.List.{List, map}
use mathlib.Core.Path.{◌≡◌, refl, sym, ap, ◌∙◌}
use native.Mathlib.Omega.{arith}
use lib.Dec.{eqb}
use lib.ListN.{length, get_or, set, take, drop, length-set}
use lib.Seq.{take-length}
use Rattle.lists.specs.Lists.{any, one_if, count_if}
use Rattle.lists.specs.Walk.{fill_more}
use Rattle.lists.specs.Ahead.{slice-tails, Ahead, ahead-start, ahead-next, ahead-done}
use Rattle.lists.specs.Found.{Finding, finding-next, finding-done}
use Rattle.lists.specs.Runs.{RunEnd, keys-count}
use Rattle.semantics.specs.Words.{atom_role, port_of}
use Rattle.semantics.specs.Table.{sizes_of, numbers_of, atom_words_of, class_of, atom_of, rule_of, table_of, rule_at, is_role, consumed}
use Rattle.wellformed.specs.Tables.{RuleFits, rule-has, consumed-length, rule-legal}
use Rattle.semantics.specs.Answers.{table_verdict}
use Rattle.semantics.specs.declared.Atom.{Atom}
use Rattle.semantics.specs.declared.Sizes.{Sizes}
use Rattle.semantics.specs.declared.Verdict.TheVariants.{Allowed}
use Rattle.table.specs.Index.{Starts, cut}
use Rattle.rules.specs.RuleWords.{cut_fits, cut-rule}
use Rattle.rules.specs.Decode.{Decodes}
use Rattle.rules.specs.declared.decode.Rule.{Rule}

consumes-first : (z : Sizes) (ws : List ℕ) → RuleFits z ws → {k : ℕ} → RunEnd (is_role 0) ws 0 k → count_if (is_role 0) ws ≡ k
consumes-first z ws f r = omega (arith, keys-count atom_role 0 r f.rises)

-- i words of a rule are decoded into x: n of them are consumes, and b says whether one is a begin. The class is found before.
pub record Decoding (ws : List ℕ) (class : ℕ) (x : Rule) (n : ℕ) (b : Bool) (i : ℕ) : Type 0 where
  pub room : length x.atoms ≡ 16
  pub atoms : take i x.atoms ≡ map atom_of (take i ws)
  pub count : x.count ≡ length ws
  pub same : x.class ≡ class
  pub consumes : Ahead (λ k. drop k ws) (length ws) (λ l. n + count_if (is_role 0) l) i (count_if (is_role 0) ws)
  pub begins : Finding (is_role 2) (λ k. drop k ws) (length ws) b i (any (is_role 2) ws)

pub decoding-start : (ws : List ℕ) (x : Rule) → length x.atoms ≡ 16 → x.count ≡ length ws → Decoding ws x.class x 0 false 0
decoding-start ws x room count = record {
  room = room;
  atoms = refl;
  count = count;
  same = refl;
  consumes = record { within = omega arith; so_far = omega arith };
  begins = record { ahead = ahead-start (λ k. drop k ws) (length ws) (any (is_role 2)) };
}

module _ {z : Sizes} {ws : List ℕ} (f : RuleFits z ws) {class : ℕ} {x : Rule} {n : ℕ} {b : Bool} {i : ℕ} (d : Decoding ws class x n b i) where
  pub decoding-few : n ≤ 4
  decoding-few = omega (arith, d.consumes.so_far, f.most)

  pub decoding-next :
      {a : Atom} {role m : ℕ} → i < length ws
      → a ≡ atom_of (get_or ws i 0)
      → role ≡ atom_role (get_or ws i 0)
      → m ≡ one_if (eqb role 0)
      → Decoding ws class
      (record { atoms = set x.atoms i a; count = x.count; consumes = x.consumes; class = x.class; begins = x.begins })
      (n + m) (b || eqb role 2) (i + 1)
  decoding-next l ea er em = rw (em, er, ea) (record {
    room = length-set x.atoms i (atom_of (get_or ws i 0)) ∙ d.room;
    atoms = fill_more atom_of ws x.atoms i 0 l (omega (arith, d.room, f.few)) d.atoms;
    count = d.count;
    same = d.same;
    consumes = ahead-next (slice-tails 0 ws) d.consumes l _ (λ l. omega arith);
    begins = finding-next (slice-tails 0 ws) d.begins l;
  })

  pub decoding-done :
      length ws ≤ i
      → class ≡ class_of z (port_of (get_or ws 0 0))
      → Decodes (record { atoms = x.atoms; count = x.count; consumes = n; class = x.class; begins = b }) (rule_of z ws)
  unfolding rule_of
  decoding-done l ec =
      let all : i ≡ length ws = omega (arith, d.consumes.within) in
      let counted : n ≡ count_if (is_role 0) ws = omega (arith, ahead-done (slice-tails 0 ws) d.consumes l) in
      record {
        room = d.room;
        few = rw d.count f.few;
        atoms = rw d.count (rw (all, take-length ws) at d.atoms);
        class = d.same ∙ ec;
        begins = finding-done (slice-tails 0 ws) d.begins l ∙ sym (rule-has z ws 2);
        consumes = counted ∙ sym (consumed-length z ws);
        legal = rw counted (rule-legal z ws f);
      }

pub cut-consumes : (t starts : List ℕ) (r : ℕ) → table_verdict t ≡ Allowed → r < (sizes_of t).rules → Starts (numbers_of t) (sizes_of t).rules starts
    → {ws : List ℕ} → ws ≡ atom_words_of t → {xs : List ℕ} {k : ℕ} → xs ≡ cut starts r ws → RunEnd (is_role 0) xs 0 k
    → (k ≡ length (consumed (rule_at (table_of t) r))) × (k ≤ 4)
cut-consumes t starts r v l s ew {xs} e end =
    let fits = cut_fits t starts r v l s ew refl e in
    rw (← consumes-first (sizes_of t) xs fits end)
    (sym (consumed-length (sizes_of t) xs) ∙ ap (λ x. length (consumed x)) (cut-rule t starts r v l s ew refl e), fits.most)
