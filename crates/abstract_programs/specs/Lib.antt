pub mod ProgramWalks
