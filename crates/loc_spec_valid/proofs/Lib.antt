pub mod RowsBreaches
