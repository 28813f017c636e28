pub mod MemberKinds
pub mod ValueRules
