pub mod ExportParts
pub mod Cells
pub mod SavedVariables
pub mod Unloads
pub mod Runs
