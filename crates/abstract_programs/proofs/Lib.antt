pub mod ProgramMaking
