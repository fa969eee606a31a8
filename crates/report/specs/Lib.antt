-- Report: what is printed of a sheet. Assumes nothing.
pub mod Report
