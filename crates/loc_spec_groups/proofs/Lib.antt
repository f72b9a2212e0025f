pub mod RowsGroups
