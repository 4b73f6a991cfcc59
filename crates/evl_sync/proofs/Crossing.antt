-- Queues, semaphores and flag groups may go to another host thread.
use denote.Param.Send.{IsSend, sendable, view_send}
use Rattle.std.proofs.CrossingOver.{crosses}
use Rattle.std.proofs.Crossing as heap
use Rattle.evl_base.proofs.Crossing.{declared_send}
use Rattle.evl_sync.specs.contracts.arrival_queue.ArrivalQueue as ArrivalQueue
use Rattle.evl_sync.specs.contracts.flag_group.FlagGroup as FlagGroup
use Rattle.evl_sync.specs.contracts.flag_waiter.FlagWaiter as FlagWaiter
use Rattle.evl_sync.specs.contracts.sem.Sem as Sem
use Rattle.evl_sync.specs.contracts.wait_queue.WaitQueue as WaitQueue
use Rattle.evl_sync.specs.contracts.waiter.Waiter as Waiter

waiter_send : IsSend Waiter.the_row
waiter_send = search (declared_send, crosses, sendable) depth 20

flag_waiter_send : IsSend FlagWaiter.the_row
flag_waiter_send = search (declared_send, crosses, sendable) depth 20

pub wait_queue_send : IsSend WaitQueue.the_row
wait_queue_send = search (waiter_send, view_send, declared_send, heap.crosses, crosses, sendable) depth 20 fits 20000

pub arrival_queue_send : IsSend ArrivalQueue.the_row
arrival_queue_send = search (view_send, declared_send, heap.crosses, crosses, sendable) depth 20 fits 20000

pub sem_send : IsSend Sem.the_row
sem_send = search (wait_queue_send, view_send, declared_send, heap.crosses, crosses, sendable) depth 20 fits 20000

pub flag_group_send : IsSend FlagGroup.the_row
flag_group_send = search (flag_waiter_send, view_send, declared_send, heap.crosses, crosses, sendable) depth 20 fits 20000
