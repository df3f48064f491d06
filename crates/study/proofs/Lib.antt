-- `Algebra`: the algebra of sums. `SumOver`: sums over claims in any order. `Places`: which place a group and a column have. `InBounds`: sums within bounds.
-- `Listed`: a test of a list as that of its places. `Capacity`: check 9 never fires under 500,000 claims. `Banded`: a band of months as the code sums it.
-- `Raised`: sums raised by figures, guarded; a span's share band by band. `Low`: six sums shown low by one test. `NextBand`: a band behind the one before
-- it. `WithSpan`: adding a span is adding its month records. `SpanAdds`: which way out of adding gives which answer. `LentAdding`: adding told that there is
-- room. `SameAdding`: adding with a table of either kind. `Built`: a run's study is that of its accepted claims. `Totals`: studies over parts total.
-- `ChangeOfDefinition`: code 6 counts as a recovery. `Demand3`: the theorem. `Weighting`: claims that weigh one each. `Members`: the claims of a list.
-- `TakenBack`: claims withdrawn. `OwnShare`, `Withdrawals`: what a withdrawal's code computes. `PreparedWithdrawing`: withdrawing with a table of either
-- kind. `Joins`: what a join tests and adds. `Filled`: an array that one closure's calls fill. `Pooling`: two studies joined. `AnyGrouping`: pools in any
-- tree. `PoolOrders`: in any order. `Returned`: what every study that a call returns has. `Closings`: no more closings than claims taken.
pub mod Algebra
pub mod SumOver
mod Places
pub mod InBounds
pub mod Listed
pub mod Capacity
pub mod Banded
mod Raised
mod Low
mod NextBand
pub mod Built
mod WithSpan
mod SpanAdds
pub mod LentAdding
pub mod SameAdding
pub mod Totals
pub mod ChangeOfDefinition
pub mod Demand3
pub mod Weighting
pub mod Members
pub mod TakenBack
mod OwnShare
mod Withdrawals
pub mod PreparedWithdrawing
pub mod Pooling
mod Joins
mod Filled
pub mod AnyGrouping
pub mod PoolOrders
pub mod Returned
pub mod Closings
