-- `choose_by_keys`: the keys made are those of the columns.
use Rattle.first_choice.proofs.Fits.{groupable-keys}
use Rattle.first_choice.proofs.tries.choose_by_keys.Statement.{statement}
use Rattle.first_choice.proofs.tries.choose_by_keys.Tie as tie

keys-by-marks-requires : tie.Need-keys_by_marks-requires
keys-by-marks-requires c κs =
    let p = c.requires in
    let g = p.0 in
    ((g.columns, g.few-ports, p.2, g.looked, g.unmarked), g.stops)

count-and-choose-requires : tie.Need-count_and_choose-requires
count-and-choose-requires c κs =
    let g = c.requires.0 in
    let made = c.keys_by_marks.ensures in (
      record {
        columns = g.columns;
        long = made.1.0;
        four = g.four;
        some = g.some;
        most = g.most;
        low = g.low;
        grouped = rw made.0 (groupable-keys g);
      },
      c.requires.1,
    )

returns : tie.Need-returns
returns c = let made = c.keys_by_marks.ensures in (rw made.0 at c.count_and_choose.ensures, made.1.0)

pub choose_by_keys_spec : {M : Type 1} → statement M
choose_by_keys_spec = tie.close (tie.spec keys-by-marks-requires count-and-choose-requires returns)
