use Rattle.std.proofs.Common.{arith}
use Rattle.lab_schedules.proofs.BoundLaws.{demand-rises, own-within}
use Rattle.lab_schedules.proofs.loads.response_of.Goals as goal

pub loop-init : goal.loop-init
loop-init c other enough = omega (arith, enough, own-within other c.args.own c.args.loads.now)

pub loop-preserved : goal.loop-preserved
loop-preserved c other enough =
    omega (arith, enough, c.in-Some.ensures, demand-rises c.loop.time other c.args.own c.args.own c.args.loads.now (c.loop.invariant other enough) (omega arith))

pub returns-then-next-most : goal.returns-then-next-most
returns-then-next-most c other enough =
    omega (arith, enough, c.in-Some.ensures, c.if-next-most.true, demand-rises c.loop.time other c.args.own c.args.own c.args.loads.now (c.loop.invariant other enough) (omega arith))
