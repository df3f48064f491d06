-- What only this layer's way of computing needs. It may be passed over: what is to be believed stands in the files beside this folder.
pub mod Private
pub mod PreparedAdding
pub mod SameAdding
pub mod LentAdding
pub mod PreparedWithdrawing
