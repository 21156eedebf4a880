-- `store::is_header` meets its contract: the words of headers stand together.
use Rattle.store.proofs.ByWord.{header_word, header_low}
use Rattle.store.proofs.is_header.Goals as goal

pub returns-then-w-ge-HEADER_FIRST : goal.returns-then-w-ge-HEADER_FIRST
returns-then-w-ge-HEADER_FIRST c = header_word c.args.w c.if-w-ge-HEADER_FIRST.true

pub returns-else-w-ge-HEADER_FIRST : goal.returns-else-w-ge-HEADER_FIRST
returns-else-w-ge-HEADER_FIRST c = header_low c.args.w c.if-w-ge-HEADER_FIRST.false
