-- `cell::get_num` meets its contract: the upper half of the values, less 2^56, are the numbers below 0.
use Rattle.cell.proofs.Signed.{lowered_fits, number_low, number_high}
use Rattle.cell.proofs.get_num.Goals as goal

pub overflow_sub-result : goal.overflow_sub-result
overflow_sub-result c = lowered_fits _ c.requires

pub returns-then-v-lt36028797018963968 : goal.returns-then-v-lt36028797018963968
returns-then-v-lt36028797018963968 c = number_low _ c.if-v-lt36028797018963968.true

pub returns-else-v-lt36028797018963968 : goal.returns-else-v-lt36028797018963968
returns-else-v-lt36028797018963968 c = number_high _ c.if-v-lt36028797018963968.false c.requires
