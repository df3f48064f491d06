-- What the small company rule means: document 02, request No. 14.
pub mod Company
pub mod SmallCompany
pub mod SmallCompanyRule
pub mod design
