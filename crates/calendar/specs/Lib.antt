-- What the calendar layer means, from document 01's section Calendar. `MonthTable`: the statement of document 02, No. 5.
pub mod Calendar
pub mod DayAnswers
pub mod MonthTable
