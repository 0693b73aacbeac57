-- The entries at the picks, in columns of which the first n places are in use.
use Rattle.std.specs.Prelude.{ℕ, ◌<◌, ◌≤◌, List, map, [], ◌∷◌, get_or, length, take, ◌≡◌, refl, true}
use Rattle.std.proofs.Math.ListN.{get_or-eq_default}
use Rattle.std.proofs.lemmas.List.{length-map}
use Rattle.lists.specs.Members.{Among, get_or-among}
use Rattle.lists.specs.Padded.{padded, take-padded}
use Rattle.std.proofs.Common.{sym, ap, ◌∙◌, inl, inr, zero-add, arith, length-take-le, get_or-take}
use Rattle.lists.specs.Rows.{rows, length-rows, get_d_rows}
use Rattle.semantics.specs.Words.{value_of}
use Rattle.semantics.specs.Table.{consumed}
use Rattle.semantics.specs.State.{Entry}
use Rattle.semantics.specs.Move.{nothing, entry_at, on_ports, picked, owners_at}
use Rattle.rules.specs.declared.decode.Rule.{Rule}
use Rattle.rules.specs.Decode.{Decodes}
use Rattle.state.specs.Working.{row_of}
use Rattle.reaction.specs.Decoded.{rule_in}
use Rattle.wellformed.specs.Tables.{LegalRule}
use Rattle.wellformed.specs.Picks.{picks-within}
use Rattle.state.specs.declared.Extent.{Extent}
use Rattle.state.specs.Lent.{state_from}
use Rattle.semantics.specs.State as semantics
use Rattle.semantics.specs.Table as rules

-- the picks are among the first n places
abbrev pub Places : ℕ → List ℕ → Type 0
Places n ps = (p : ℕ) → Among p ps → p < n

-- a column at the picks
abbrev pub column : List ℕ → List ℕ → List ℕ
column xs ps = map (λ p. get_or xs p 0) ps

-- .. in an array of four
abbrev pub four_at : List ℕ → List ℕ → List ℕ
four_at xs ps = padded 4 0 (column xs ps)

-- ---- one pick

module _ (os ws gs : List ℕ) (n : ℕ) where
  abbrev pub entries : List Entry
  entries = rows (row_of os ws gs) 0 n

  pub entry_past : (p : ℕ) → n ≤ p → entry_at entries p ≡ nothing
  entry_past p h =
      let l : length entries ≤ p = omega (arith, length-rows (row_of os ws gs) 0 n) in
      get_or-eq_default entries nothing l

  pub entry-at : (p : ℕ) → p < n → entry_at entries p ≡ row_of os ws gs p
  entry-at p h = get_d_rows nothing (row_of os ws gs) 0 n p h ∙ ap (row_of os ws gs) (zero-add p)

  -- 7: where messages on some ports stand
  pub places-on : (ports ps : List ℕ) → on_ports ports (map (entry_at entries) ps) ≡ true → Places n ps
  places-on ports ps h p m = rw (length-rows (row_of os ws gs) 0 n) at (picks-within ports entries ps h p m)

  -- ---- all picks, where they are places

  pub owners-at : (ps : List ℕ) → Places n ps → map (λ e. e.owner) (map (entry_at entries) ps) ≡ column os ps
  owners-at [] h = refl
  owners-at (p ∷ ps) h = rw (entry-at p (h p (inl refl)), owners-at ps (λ q m. h q (inr m)))

  pub values-at : (ps : List ℕ) → Places n ps → map (λ e. e.value) (map (entry_at entries) ps) ≡ map value_of (column ws ps)
  values-at [] h = refl
  values-at (p ∷ ps) h = rw (entry-at p (h p (inl refl)), values-at ps (λ q m. h q (inr m)))

-- the pick at i, of the first k
pub place-at : (n k : ℕ) (picks : List ℕ) → Places n (take k picks) → k ≤ length picks → (i : ℕ) → i < k → get_or picks i 0 < n
place-at n k picks h l i m =
    let low : i < length (take k picks) = omega (arith, length-take-le k picks l) in
    rw (← get_or-take k picks i 0 m) (h (get_or (take k picks) i 0) (get_or-among 0 (take k picks) i low))

-- what is found at the first k picks, out of its array
pub take_found : (k : ℕ) (xs picks : List ℕ) → k ≤ length picks → take k (four_at xs (take k picks)) ≡ column xs (take k picks)
take_found k xs picks l =
    let e : k ≡ length (column xs (take k picks)) = sym (length-map (take k picks) (λ p. get_or xs p 0) ∙ length-take-le k picks l) in
    ap (λ (j : ℕ). take j (four_at xs (take k picks))) e ∙ take-padded 4 0 (column xs (take k picks))

-- as many picks as consumes
pub count-taken : {k : ℕ} {r : rules.Rule} → LegalRule k r → (picks : List ℕ) → length picks ≡ 4 → length (take k picks) ≡ k
count-taken {k} legal picks four = length-take-le k picks (omega (arith, legal.most))

module _ (x : Rule) (d : Decodes x (rule_in x)) (picks : List ℕ) (four : length picks ≡ 4) where
  abbrev ps : List ℕ
  ps = take x.consumes picks

  pub count-picks : length ps ≡ x.consumes
  count-picks = count-taken d.legal picks four

  module _ (os ws gs : List ℕ) (at : Extent) where
    abbrev n : ℕ
    n = at.len

    abbrev σ : semantics.State
    σ = state_from os ws gs at

    -- 7: the picks are places
    pub places : on_ports (consumed (rule_in x)) (picked σ ps) ≡ true → Places n ps
    places = places-on os ws gs n (consumed (rule_in x)) ps

    -- 8: the owners found there
    pub owners-found : {found : List ℕ} → found ≡ four_at os ps → Places n ps → take x.consumes found ≡ owners_at σ ps
    owners-found e h =
        ap (take x.consumes) e ∙ take_found x.consumes os picks (omega (arith, d.legal.most)) ∙ sym (owners-at os ws gs n ps h)
