pub mod OpenCalls
pub mod Executions
pub mod Calling
pub mod WaitingExecutions
pub mod Waiting
pub mod GrowingExecutions
pub mod Growing
