-- Both sides together leave what the rule says.
pub mod Final
pub mod Call
