mod Doors
mod Extending
