-- The key of an entry as the code tells it.
use Prim.Native.Nat.{ℕ, ◌+◌, ◌*◌, ◌<◌}
use mathlib.Core.Bool.{Bool, true, false, ◌&&◌, not, cond}
use mathlib.Core.Path.{◌≡◌, refl}
use native.Mathlib.Omega.{arith}
use lib.Dec.{eqb, ltb}
use Rattle.lists.specs.Lists.{given}
use Rattle.semantics.specs.Table.{class_of}
use Rattle.semantics.specs.State.{Entry, is_message, owned}
use Rattle.semantics.specs.declared.Sizes.{Sizes}
use Rattle.enabled.specs.Keys.{takeable}
use Rattle.offers.specs.Offers.{owner_key}

-- a port is local exactly if it is behind the global ones and before the merge ports
class-local : (a b : Bool) → not a && b ≡ eqb (cond a 0 (cond b 1 2)) 1
class-local true b = refl
class-local false true = refl
class-local false false = refl

pub key-told : (z : Sizes) (parts : ℕ → Bool) (e : Entry) {part : Bool} → parts e.owner ≡ part
    → cond (is_message e && given (ltb e.port z.globals) (owned 0 e) && part)
    (cond (not (ltb e.port z.globals) && ltb e.port (z.globals + z.locals)) (e.owner * 512 + e.port) e.port) 256
    ≡ owner_key z parts e
key-told z parts e h = rw (h, class-local (ltb e.port z.globals) (ltb e.port (z.globals + z.locals)))

pub key-small : (z : Sizes) (parts : ℕ → Bool) (e : Entry) → e.owner < 65536 → e.port < 256 → owner_key z parts e < 65536 * 512
key-small z parts e h l = go (takeable z parts e) (eqb (class_of z e.port) 1)
  where
    go : (a b : Bool) → cond a (cond b (e.owner * 512 + e.port) e.port) 256 < 65536 * 512
    go true true = omega arith
    go true false = omega arith
    go false b = omega arith
