use Rattle.built_in_members.proofs.module_members.member_kind.Goals as goal

pub returns-in-DebugPrint : goal.returns-in-DebugPrint
returns-in-DebugPrint c = rw c.in-DebugPrint.is c.printing.ensures

pub returns-in-DebugTrap : goal.returns-in-DebugTrap
returns-in-DebugTrap c = rw c.in-DebugTrap.is c.plain_function.ensures

pub returns-in-ErrorReject : goal.returns-in-ErrorReject
returns-in-ErrorReject c = rw c.in-ErrorReject.is c.plain_function-in-ErrorReject.ensures

pub returns-in-ErrorMessage : goal.returns-in-ErrorMessage
returns-in-ErrorMessage c = rw c.in-ErrorMessage.is c.plain_function-in-ErrorMessage.ensures

pub returns-in-ErrorCode : goal.returns-in-ErrorCode
returns-in-ErrorCode c = rw c.in-ErrorCode.is c.coding.ensures

pub returns-in-NatToText : goal.returns-in-NatToText
returns-in-NatToText c = rw c.in-NatToText.is c.plain_function-in-NatToText.ensures

pub returns-in-IntToText : goal.returns-in-IntToText
returns-in-IntToText c = rw c.in-IntToText.is c.plain_function-in-IntToText.ensures

pub returns-in-ArrayTabulate : goal.returns-in-ArrayTabulate
returns-in-ArrayTabulate c = rw c.in-ArrayTabulate.is c.tabulating.ensures

pub returns-in-ArrayInit : goal.returns-in-ArrayInit
returns-in-ArrayInit c = rw c.in-ArrayInit.is c.initializing.ensures

pub returns-in-ArrayFreeze : goal.returns-in-ArrayFreeze
returns-in-ArrayFreeze c = rw c.in-ArrayFreeze.is c.freezing.ensures

pub returns-in-ArrayThaw : goal.returns-in-ArrayThaw
returns-in-ArrayThaw c = rw c.in-ArrayThaw.is c.thawing.ensures

pub returns-in-PrincipalFromActor : goal.returns-in-PrincipalFromActor
returns-in-PrincipalFromActor c = rw c.in-PrincipalFromActor.is c.from_actor.ensures
