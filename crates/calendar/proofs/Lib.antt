-- The laws that the layers above cite are in `Laws`; `TableRule` has the rule at each entry of the table of month starts, and `MonthTable` the
-- theorem that the table and the rule agree.
pub mod Laws
mod TableRule
pub mod MonthTable
