-- `record` meets its contract: at place i the moves before it are run and recorded.
use Prim.Native.Nat.{◌-◌, ◌<◌}
use mathlib.Core.Path.{◌≡◌, refl, ap, ◌∙◌}
use native.Mathlib.Omega.{arith}
use borrow.Author.Rules.{rules}
use lib.ListN.{length, length-set}
use Rattle.semantics.specs.Log.{move_count, move_at}
use Rattle.words.specs.Head.{words_in}
use Rattle.state.specs.Working.{held}
use Rattle.recording.proofs.Recording.{Recording, recording-start, recording-lent, recording-place, recording-id, recording-room, recording-next, recording-refused, recording-end}
use Rattle.recording.proofs.record.record.Statement.{statement}
use Rattle.recording.proofs.record.record.Tie as tie

abbrev Inv : tie.invariant-loop-i
Inv table starts owners₀ items₀ origins₀ log ceiling wanted₀ members₀ ended₀ begun₀ first k left₀ i₀ owners items origins wanted members ended begun left i =
    (k ≡ move_count log) × (length wanted ≡ length wanted₀)
    × Recording table starts log (held owners₀ items₀ origins₀ left₀) ceiling ended₀ i begun wanted members ended (held owners items origins left)

abbrev μ : tie.decreases-loop-i
μ table starts owners₀ items₀ origins₀ log ceiling wanted₀ members₀ ended₀ begun₀ first k left₀ i₀ owners items origins wanted members ended begun
    left i = k - i

loop-holds : tie.Need-loop-i-init Inv μ
loop-holds c =
    let p = c.requires in
    (c.count_of-k.ensures.0, refl, recording-start p.0 p.1)

module _ (c : tie.In-loop-i Inv μ) where
  more : c.loop-i.i < move_count c.args.log.now
  more = omega (arith, c.loop-i.invariant.0, c.loop-i-test.true)

  small : c.loop-i.i < 1024
  small = recording-place c.loop-i.invariant.2 more

module _ (c : tie.After-move_at-mv Inv μ) where
  abbrev turn : tie.In-loop-i Inv μ
  turn = c.before

  words : words_in c.move_at-mv.result ≡ move_at turn.args.log.now turn.loop-i.i
  words = c.move_at-mv.ensures

  four : length c.move_at-mv.result.picks ≡ 4
  four = search rules

note-move-requires : tie.Need-note_move-requires Inv μ
note-move-requires c κs =
    let at = turn c.before.before.before in
    let v = at.loop-i.invariant.2 in
    (recording-lent v, v.room.begun, small at, omega (arith, more at, v.room.origins), v.room.members, v.room.ends)

abbrev read_of : tie.After-make-arg-in-loop-i-2-1 Inv μ → tie.After-move_at-mv Inv μ
read_of c = c.before.before.before.before.before.before.before.before.before

make-requires : tie.Need-make-made-requires Inv μ
make-requires c κs =
    let at = turn (read_of c) in
    let v = at.loop-i.invariant.2 in
    record { indexed = v.asked.prepared.indexed; maker-fits = (omega arith, omega (arith, small at)); workable = v.folded.reached.workable }

note-begin-requires : tie.Need-note_begin-requires Inv μ
note-begin-requires c κs =
    let at = turn (read_of c.before.before.before.before) in
    let v = at.loop-i.invariant.2 in
    let (low, high) = recording-id v (more at) in
    (v.room.begun, ap length c.note_move.ensures.member ∙ length-set at.loop-i.members _ _ ∙ v.room.members, small at, low, high)

abbrev told-read : tie.In-Denied Inv μ → tie.After-move_at-mv Inv μ
told-read c = read_of c.before.before.before.before.before.before

abbrev made-read : tie.In_default Inv μ → tie.After-move_at-mv Inv μ
made-read c = read_of c.before.before.before.before.before.before

returns : tie.Need-returns-in-Denied Inv μ
returns c =
    let read = told-read c in
    let h = (turn read).loop-i.invariant.2 in
    let marked = c.note_begin.ensures in (
      recording-refused (turn read).loop-i.invariant.2 (more (turn read)) (words read) (four read) c.note_move.ensures
          c.make-made.ensures marked c.in-Denied.is refl refl,
      recording-room h (more (turn read)) (words read) (four read) c.note_move.ensures c.make-made.ensures marked,
    )

loop-again : tie.Need-loop-i-preserved Inv μ
loop-again c =
    let read = made-read c in
    let v = (turn read).loop-i.invariant in (
      v.0,
      c.note_move.ensures.picked.size ∙ v.1,
      recording-next v.2 (more (turn read)) (words read) (four read) c.note_move.ensures c.make-made.ensures
          c.note_begin.ensures c.in_default.is,
    )

returns-2 : tie.Need-returns Inv μ
returns-2 c = (recording-end c.loop-i.invariant.2 (omega (arith, c.loop-i.invariant.0, c.loop-i-test.false)) refl refl, c.loop-i.invariant.2.room)

pub record_spec : {M : Type 1} → statement M
record_spec =
    tie.close
    (tie.spec Inv μ (λ c κs. search rules) loop-holds
    (λ c κs. record { sizes = c.loop-i.invariant.2.asked.prepared.log; within = more c })
    note-move-requires
    (λ c. omega (arith, small (turn (read_of c)))) (λ c. omega (arith, small (turn (read_of c)))) make-requires note-begin-requires
    (λ c. search rules) (λ c. omega (arith, small (turn (told-read c))))
    (λ c. c.note_move.ensures.picked.size
    ∙ (turn (told-read c)).loop-i.invariant.1)
    returns (λ c. search rules)
    (λ c. omega (arith, small (turn (made-read c)))) (λ c. omega (arith, (turn (made-read c)).loop-i-test.true)) loop-again
    (λ c. omega (arith, c.loop-i.invariant.2.folded.reached.within, c.loop-i.invariant.2.asked.prepared.log.few))
    (λ c. c.loop-i.invariant.1) returns-2)
