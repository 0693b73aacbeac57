-- `key_of` meets its contract: each of its returns is a case of `KeyCases`.
use Prim.Native.Nat.{ℕ, ◌≤◌, ◌<◌}
use mathlib.Core.Bool.{true, not}
use mathlib.Core.Path.{◌≡◌, sym, ap, ◌∙◌}
use native.Mathlib.Omega.{arith}
use borrow.Author.Tests.{ne_eqb}
use Rattle.semantics.specs.Words.{item_kind, port_of}
use Rattle.semantics.specs.State.{Entry}
use Rattle.state.specs.Working.{entry_from}
use Rattle.eligible.specs.KeyColumn.{outside}
use Rattle.eligible.proofs.KeyCases.{key-other, key-global, key-inside, key-aborting, is-local, key-local, key-merge}
use borrow.Author.Rules.{rules}
use Rattle.eligible.proofs.keys.key_of.Statement.{statement}
use Rattle.eligible.proofs.keys.key_of.Tie as tie

port-small : (w : ℕ) → port_of w < 256
port-small w = omega arith

-- where the port of a message is known
abbrev start : tie.After-port_of-port → tie.Start
start c = c.before.before.before

abbrev entry : tie.After-port_of-port → ℕ → Entry
entry c origin = entry_from (start c).args.owner (start c).args.item origin

message : (c : tie.After-port_of-port) → item_kind (start c).args.item ≡ 0
message c = sym c.kind_of.ensures ∙ omega (arith, c.if-kind_of-ne-MESSAGE.false)

-- .. and is no global port
abbrev ported : tie.After-has → tie.After-port_of-port
ported c = c.before.before.before

inner : (c : tie.After-has) → (start (ported c)).args.z.globals ≤ port_of (start (ported c)).args.item
inner c = omega (arith, (ported c).port_of-port.ensures, c.if-port-z.false)

-- .. nor in a transaction that has an abort mark
takes : (c : tie.Else-has) → outside (start (ported c.before)).args.aborting.now (start (ported c.before)).args.owner ≡ true
takes c = ap not (sym c.has.ensures ∙ c.if-has.false)

returns : tie.Need-returns-then-kind_of-ne-MESSAGE
returns c origin =
    let a = c.args in
    key-other a.z (outside a.aborting.now) a.ids.now a.m (entry_from a.owner a.item origin)
    (ne_eqb _ _ (λ q. c.if-kind_of-ne-MESSAGE.true (c.kind_of.ensures ∙ q)))

returns-2 : tie.Need-returns-then-owner-eq0
returns-2 c origin =
    let a = (start c.before.before.before).args in
    let port = c.port_of-port.ensures in
    rw port (key-global a.z (outside a.aborting.now) a.ids.now a.m (entry c.before.before.before origin) (message c.before.before.before) (port-small a.item)
    (omega (arith, port, c.if-port-z.true)) c.if-owner-eq0.true (ap not (start c.before.before.before).requires.4))

returns-3 : tie.Need-returns-else-owner-eq0
returns-3 c origin =
    let a = (start c.before.before.before).args in
    key-inside a.z (outside a.aborting.now) a.ids.now a.m (entry c.before.before.before origin) (message c.before.before.before) (port-small a.item)
    (omega (arith, c.port_of-port.ensures, c.if-port-z.true)) c.if-owner-eq0.false

returns-4 : tie.Need-returns-then-has
returns-4 c origin =
    let m = ported c.before in
    let a = (start m).args in
    key-aborting a.z (outside a.aborting.now) a.ids.now a.m (entry m origin) (message m) (port-small a.item)
    (ap not (sym c.has.ensures ∙ c.if-has.true))

local-key-requires : tie.Need-local_key-requires
local-key-requires c κs =
    let m = ported c.before.before.before in
    let s = start m in
    let a = s.args in
    let port = m.port_of-port.ensures in
    let l = is-local a.z (outside a.aborting.now) a.ids.now a.m (entry m 0) (message m) (port-small a.item) (inner c.before.before.before)
    (takes c.before.before)
    (omega (arith, port, c.if-port-z-2.true)) in
    (s.requires.1, s.requires.2, s.requires.3 0 l, omega (arith, port, port-small a.item))

returns-5 : tie.Need-returns-then-port-z-2
returns-5 c origin =
    let m = ported c.before.before.before.before in
    let s = start m in
    let a = s.args in
    let port = m.port_of-port.ensures in
    key-local a.z (outside a.aborting.now) a.ids.now a.m (entry m origin) (message m) (port-small a.item) (inner c.before.before.before.before)
    (takes c.before.before.before)
    (omega (arith, port, c.if-port-z-2.true)) s.requires.1 (rw port at c.local_key.ensures)

returns-6 : tie.Need-returns
returns-6 c origin =
    let m = ported c.before.before.before in
    let a = (start m).args in
    let port = m.port_of-port.ensures in
    rw port (key-merge a.z (outside a.aborting.now) a.ids.now a.m (entry m origin) (message m) (port-small a.item) (inner c.before.before.before)
    (takes c.before.before) (omega (arith, port, c.if-port-z-2.false)))

pub key_of_spec : {M : Type 1} → statement M
key_of_spec =
    tie.close
    (tie.spec
    (λ c κs. search rules)
    returns
    (λ c κs. search rules)
    returns-2
    returns-3
    (λ c κs. search rules)
    returns-4
    (λ c. omega (arith, (start (ported c.before.before)).requires.0))
    local-key-requires
    returns-5
    returns-6)
