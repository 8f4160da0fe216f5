-- `export_bench::called` meets its contract: each arm's record is the one at its kind in the list. Assumes nothing.
use Rattle.export_bench.specs.Called.{methods, method_of}
use Rattle.export_bench.proofs.Calling.{Passed, past, last_called}
use Rattle.export_bench.proofs.called.Goals as goal

pub returns-in-1 : goal.returns-in-1
unfolding method_of methods
returns-in-1 c = rw c.in-1.is c.enable.ensures

pub returns-in-2 : goal.returns-in-2
unfolding method_of methods
returns-in-2 c = rw c.in-2.is c.disable.ensures

pub returns-in-3 : goal.returns-in-3
unfolding method_of methods
returns-in-3 c = rw c.in-3.is c.get.ensures

pub returns-in-4 : goal.returns-in-4
unfolding method_of methods
returns-in-4 c = rw c.in-4.is c.get_wake.ensures

pub returns-in-5 : goal.returns-in-5
unfolding method_of methods
returns-in-5 c = rw c.in-5.is c.put.ensures

pub returns-in-6 : goal.returns-in-6
unfolding method_of methods
returns-in-6 c = rw c.in-6.is c.put_idle.ensures

pub returns-in-7 : goal.returns-in-7
unfolding method_of methods
returns-in-7 c = rw c.in-7.is c.idle.ensures

pub returns-in-8 : goal.returns-in-8
unfolding method_of methods
returns-in-8 c = rw c.in-8.is c.suspend.ensures

pub returns-in-9 : goal.returns-in-9
unfolding method_of methods
returns-in-9 c = rw c.in-9.is c.wake.ensures

pub returns-in-10 : goal.returns-in-10
unfolding method_of methods
returns-in-10 c = rw c.in-10.is c.set_active.ensures

pub returns-in-11 : goal.returns-in-11
unfolding method_of methods
returns-in-11 c = rw c.in-11.is c.set_suspended.ensures

pub returns-in-12 : goal.returns-in-12
unfolding method_of methods
returns-in-12 c = rw c.in-12.is c.ignore_children.ensures

-- any other kind
pub returns-in_default : goal.returns-in_default
unfolding Passed
returns-in_default c =
    let args = c.args in
    let r = c.in_default.in_default-own.rest in
    rw (last_called args.kind args.p args.v (λ l. past args.kind 1 12 l r)) c.result.ensures
