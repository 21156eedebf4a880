-- The table of the bench heaps, computed and proved together.
use Rattle.std.specs.Prelude.{◌≡◌, refl, true}
use Rattle.cell.specs.Kinds.{kind_of, by_tag, word_of_kind}
use Rattle.cell.specs.Fixnum.{of_number}
use Rattle.store.specs.All.{all_from}
use Rattle.store.specs.Store.{is_header, is_atom, term_at, atom_at, run_at, keeps, step, step_kind, steps, ends_at, zero_from, cells_keep, cells_end, well_formed}
use Rattle.trail.specs.Rules.{names_bound, entry_new, trail_used, trail_good, marks_good}
use Rattle.trail.specs.State.{check_of}
use Rattle.cycle.specs.Some.{some_below}
use Rattle.cycle.specs.Sum.{sum_from}
use Rattle.cycle.specs.Kids.{arity_kind, arity_at, deg_kind, deg, kid_kind, kid, head_kind, head, pair_kind, pair}
use Rattle.cycle.specs.Verdict.{paths, cyclic_at, verdict_of}
use Rattle.cycle.specs.Room.{reaches, str_reached, lis_reached, run_room, room_from, room_by, room_of}
use Rattle.terms.specs.View.{str_view, view_kind, fun_kind, behind}
use Rattle.chains.specs.Work.{cleared}
use Rattle.unification.specs.Machine.{same_constant, same_fun, rule, args, act_of, is_compound, stopped, unified}
use Rattle.unification.specs.Machine as Machine
use Rattle.unification.specs.Calls.{unbound, plain_check, checked_check, answered, plainly, checkedly}
use Rattle.copy.specs.Rules.{end_kind, end_word, copy_run, homed, put, act, scanned, scan, copied}
use Rattle.copy.specs.Rules as Rules
use Rattle.copy.specs.Calls.{copying}
use Rattle.bench_heaps.specs.Row.{AllSay, same_answer, all_pass, rows_true}
use Rattle.bench_heaps.specs.Table.{table}

-- all rows are computed and compared, word for word
tested : all_pass table ≡ true
unfolding table word_of_kind kind_of by_tag of_number all_from is_header is_atom term_at atom_at run_at keeps step step_kind steps ends_at zero_from cells_keep cells_end well_formed names_bound entry_new trail_used trail_good marks_good check_of some_below sum_from arity_kind arity_at deg_kind deg kid_kind kid head_kind head pair_kind pair paths cyclic_at verdict_of reaches str_reached lis_reached run_room room_from room_by room_of str_view view_kind fun_kind behind same_constant same_fun rule args act_of is_compound stopped Machine.run unified unbound cleared plain_check checked_check answered plainly checkedly copying copied scan scanned act Rules.run homed put copy_run end_word end_kind same_answer all_pass
tested = refl

-- each row: what the call answers, and every lent word after it
pub bench : AllSay table
bench = rows_true table tested
