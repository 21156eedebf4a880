-- Laws: what a call is refused for, counting the unbound Vars, undoing, what the new entries name, and what a run past the refusals comes to.
pub mod Checks
pub mod Count
pub mod Undone
pub mod Named
pub mod Settling
