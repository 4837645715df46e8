use Rattle.std.proofs.Common.{arith}
use Rattle.std.proofs.lemmas.Fmt.{length-decimal-le, length_signed_le}
use Rattle.desk_base.proofs.room.numbers_are_short.Goals as goal

pub returns-clause-unsigned : goal.returns-clause-unsigned
returns-clause-unsigned c number small = length-decimal-le 20 number (omega arith) (omega (arith, small)) small

pub returns-clause-signed : goal.returns-clause-signed
returns-clause-signed c number fits =
    let small = fits.sfits in
    length_signed_le 19 number (omega (arith, small)) small
