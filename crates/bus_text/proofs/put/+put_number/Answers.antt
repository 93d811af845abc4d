-- The recursion is the digits' own, `one_more`.
use Rattle.std.proofs.Common.{length, ap, arith}
use Rattle.bus_text.proofs.Digits.{one_digit, one_more, one_longer}
use Rattle.bus_text.proofs.Storing.{put_then}
use Rattle.bus_text.proofs.put.+put_number.Goals as goal

pub put_digit-requires : goal.put_digit-requires
put_digit-requires t c = (c.if-n-lt10.true, omega (arith, ap length (one_digit c.args.n c.if-n-lt10.true)))

pub returns-then-n-lt10 : goal.returns-then-n-lt10
returns-then-n-lt10 t c = rw (one_digit c.args.n c.if-n-lt10.true) c.put_digit.ensures

pub put_number-last-requires : goal.put_number-last-requires
put_number-last-requires t c =
    let l = one_longer c.args.n c.if-n-lt10.false (omega arith) in
    (omega (arith, c.decreases), omega arith)

pub put_digit-requires-2 : goal.put_digit-requires-2
put_digit-requires-2 t c =
    let l = one_longer c.args.n c.if-n-lt10.false (omega arith) in
    (omega arith, omega (arith, c.put_number-last.ensures.ends, c.put_number-last.auto.out))

pub returns : goal.returns
returns t c = rw (one_more c.args.n c.if-n-lt10.false (omega arith)) (put_then c.put_number-last.ensures c.put_digit-2.ensures)
