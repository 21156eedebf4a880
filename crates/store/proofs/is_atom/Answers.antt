-- `store::is_atom` meets its contract: the bits above the arity tell an Atom.
use Rattle.store.proofs.ByWord.{atom_word_lem}
use Rattle.store.proofs.is_atom.Goals as goal

pub returns : goal.returns
returns c = atom_word_lem c.args.w
