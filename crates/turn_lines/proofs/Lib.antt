mod Bounds
mod Replaying
mod Turning
