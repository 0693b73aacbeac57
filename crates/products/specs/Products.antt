-- The products of a reaction by the figures that they depend on: the rule's class, the next id, the transaction that the emits go to, and the values received.
use Rattle.std.specs.Prelude.{ℕ, suc, ◌≡◌, refl, Bool, ◌&&◌, not, cond, List, [], ◌∷◌, ◌++◌, map, eqb, get_or}
use Rattle.lists.specs.Lists.{is_in, least}
use Rattle.lists.specs.Rows.{rows}
use Rattle.semantics.specs.Words.{item_kind, port_of, value_of}
use Rattle.semantics.specs.State.{Origin, Entry, State}
use Rattle.semantics.specs.Move.{value_in, kind_made, products}
use Rattle.semantics.specs.declared.Atom.{Atom}
use Rattle.semantics.specs.declared.AtomValue.{AtomValue}
use Rattle.semantics.specs.declared.AtomValue.TheVariants.{Constant, Received}
use Rattle.semantics.specs.Table as semantics
use Rattle.rules.specs.declared.decode.Rule.{Rule}
use Rattle.state.specs.declared.State as columns
use Rattle.state.specs.Working.{entry_in}
use Rattle.reaction.specs.Decoded.{making_atoms}

abbrev pub merged_owner : List ℕ → ℕ → ℕ → ℕ
merged_owner os home o = cond (is_in o os) home o

abbrev pub owner_of_role : ℕ → ℕ → ℕ → ℕ → ℕ
owner_of_role class next home role = cond (eqb class 0 && not (eqb role 1)) next home

abbrev pub next_after : Bool → ℕ → ℕ
next_after b next = cond b (suc next) next

abbrev pub value_made : List ℕ → ℕ → Atom → ℕ
value_made got next a = cond (eqb a.role 2) next (value_in got a.value)

-- the item of an atom's product
pub record ItemMade (w : ℕ) (got : List ℕ) (next : ℕ) (a : Atom) : Type 0 where
  pub kind : item_kind w ≡ kind_made a.role
  pub port : port_of w ≡ a.port
  pub value : value_of w ≡ value_made got next a

abbrev pub product_from : ℕ → ℕ → ℕ → List ℕ → Origin → Atom → Entry
product_from class next home got o a = record {
  origin = o;
  owner = owner_of_role class next home a.role;
  kind = kind_made a.role;
  port = a.port;
  value = value_made got next a;
}

abbrev pub products_from : ℕ → ℕ → ℕ → List ℕ → ℕ → ℕ → List Atom → List Entry
products_from class next home got i q [] = []
products_from class next home got i q (a ∷ rest) = product_from class next home got (record { maker = i; index = q }) a ∷ products_from class next home
    got i (suc q) rest

-- lent columns with the products appended
abbrev pub appended : Rule → ℕ → List ℕ → ℕ → columns.State → State
appended x home received maker s = record {
  next = next_after x.begins s.next;
  entries = rows (entry_in s) 0 s.len ++ products_from x.class s.next home (map value_of received) maker 0 (making_atoms x);
}

pub products-from : (r : semantics.Rule) (s : State) (es : List Entry) (i q : ℕ) (atoms : List Atom)
    → products r s es i q atoms ≡ products_from r.class s.next (least (map (λ e. e.owner) es)) (map (λ e. e.value) es) i q atoms
products-from r s es i q [] = refl
products-from r s es i q (a ∷ rest) = rw (products-from r s es i (suc q) rest)

-- the values received matter only as they are read
value_same : (got got' : List ℕ) → ((i : ℕ) → get_or got i 0 ≡ get_or got' i 0) → (v : AtomValue) → value_in got v ≡ value_in got' v
value_same got got' e (Constant v) = refl
value_same got got' e (Received i) = e i

pub products-same : (class next home : ℕ) (got got' : List ℕ) → ((i : ℕ) → get_or got i 0 ≡ get_or got' i 0) → (i q : ℕ) (atoms : List Atom)
    → products_from class next home got i q atoms ≡ products_from class next home got' i q atoms
products-same class next home got got' e i q [] = refl
products-same class next home got got' e i q (a ∷ rest) = rw (value_same got got' e a.value, products-same class next home got got' e i (suc q) rest)
