-- Reports: the report of each answer of the run. Assumes nothing.
pub mod Reports
